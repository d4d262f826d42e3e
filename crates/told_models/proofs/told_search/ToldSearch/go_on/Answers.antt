use Rattle.std.proofs.Common.{List, Option, sym, subst, length, replicate}
use Rattle.book_base.specs.declared.call.Place.{Place}
use Rattle.book_base.specs.Order.{IsLegalOrder}
use Rattle.book_base.specs.Next.{HoldsAnswered}
use Rattle.told_models.specs.declared.walk.Walk.{Walk}
use Rattle.told_models.specs.Searching.{IsAt}
use Rattle.told_models.proofs.Walks.{nothing_found}
use Rattle.told_models.proofs.told_search.ToldSearch.go_on.Goals as goal

pub returns-in_default-clause-answer : goal.returns-in_default-clause-answer
returns-in_default-clause-answer c = λ spec agrees.
    let book = c.args.book.now in
    let held : HoldsAnswered book (replicate (length book) 0) =
    subst (λ (w : Option Walk). IsAt c.args.table.now book w) c.in_default.is c.requires.search in
    subst (λ (order : List Place). IsLegalOrder spec book order) (sym c.new.ensures.items)
    (nothing_found book held spec)
