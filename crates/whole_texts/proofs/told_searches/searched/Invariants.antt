use Rattle.told_models.specs.Searching.{IsSearch}
use Rattle.whole_texts.proofs.told_searches.searched.Given as goal

abbrev pub invariant-loop-rounds : goal.invariant-loop-rounds
invariant-loop-rounds l = IsSearch l.table l.book l.search
