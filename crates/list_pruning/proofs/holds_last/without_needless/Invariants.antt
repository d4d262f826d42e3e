use Rattle.list_pruning.proofs.Writing.{AreNeeded}
use Rattle.list_pruning.proofs.holds_last.without_needless.Given as goal

abbrev pub invariant-loop-caller : goal.invariant-loop-caller
invariant-loop-caller g l =
    AreNeeded (g.R.Reader.reading l.reader) l.book l.cut l.held l.marks l.left
