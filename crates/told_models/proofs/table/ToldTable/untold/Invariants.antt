use Rattle.told_models.proofs.Searching.{IsSearched}
use Rattle.told_models.proofs.table.ToldTable.untold.Given as goal

abbrev pub invariant-loop-steps : goal.invariant-loop-steps
invariant-loop-steps l = IsSearched l.self l.ops.keys l.states.keys l.first l._steps
