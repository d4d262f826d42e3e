use Rattle.list_pruning.proofs.Answering.{AreLeft}
use Rattle.list_pruning.proofs.forced.without_needless.Given as goal

abbrev pub invariant-loop-caller : goal.invariant-loop-caller
invariant-loop-caller g l =
    AreLeft (g.R.Reader.reading l.reader) l.book l.cut l.words l.shown l.marks l.left
