use Rattle.told_models.specs.Searching.{IsSearch}
use Rattle.told_models.specs.Weighing.{weight_of}
use Rattle.model_judge.proofs.judging.search.Given as goal

abbrev pub invariant-steps : goal.invariant-steps
invariant-steps l = IsSearch l.table l.book l.search

abbrev pub decreases-steps : goal.decreases-steps
decreases-steps l = weight_of l.book l.search
