use Rattle.std.proofs.Common.{subst, sym}
use Rattle.told_models.specs.Table.{Table}
use Rattle.told_models.specs.Searching.{IsSearch}
use Rattle.told_models.proofs.Walks.{searches_stay}
use Rattle.whole_texts.proofs.told_searches.searched.Goals as goal
use Rattle.whole_texts.proofs.told_searches.searched.Goals.{in-Some-Ask+in_ok-tell-in-Some-Ask, in-None}

pub loop-rounds-preserved : goal.loop-rounds-preserved
loop-rounds-preserved c =
    elim c.match-branch-4.branch [
      | in-Some-Ask+in_ok-tell-in-Some-Ask w ↦
          subst (λ (t : Table). IsSearch t c.args.book.now c.go_on.new.self) (sym w.table-is)
          (searches_stay c.loop-rounds.table _ c.args.book.now c.go_on.new.self
          w.tell.ensures.kept c.in_ok-state.ensures.search)
      | in-None w ↦
          subst (λ (t : Table). IsSearch t c.args.book.now c.go_on.new.self) (sym w.table-is)
          c.in_ok-state.ensures.search
    ]
