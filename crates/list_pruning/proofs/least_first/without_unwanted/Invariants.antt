use Rattle.list_pruning.proofs.Wanting.{AreWanted}
use Rattle.list_pruning.proofs.least_first.without_unwanted.Given as goal

abbrev pub invariant-loop-caller : goal.invariant-loop-caller
invariant-loop-caller g l =
    AreWanted (g.R.Reader.reading l.reader) l.book l.cut l.words l.forced l.marks l.left
