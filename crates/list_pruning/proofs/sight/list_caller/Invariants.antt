use Rattle.list_pruning.specs.Sights.{ListsRead}
use Rattle.list_pruning.proofs.sight.list_caller.Given as goal

abbrev pub invariant-loop-number : goal.invariant-loop-number
invariant-loop-number g l = ListsRead (g.R.Reader.reading l.reader) l.book l.caller l.number l.sight
