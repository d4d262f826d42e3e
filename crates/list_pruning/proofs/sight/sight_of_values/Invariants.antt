use Rattle.list_pruning.specs.Sights.{ListsRead}
use Rattle.list_pruning.proofs.sight.sight_of_values.Given as goal

abbrev pub invariant-loop-caller : goal.invariant-loop-caller
invariant-loop-caller g l = ListsRead (g.R.Reader.reading l.reader) l.book l.caller 0 l.sight
