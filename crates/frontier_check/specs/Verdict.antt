-- Which verdicts of the search are right.
use Rattle.std.specs.Prelude.{◌≡◌, List}
use Rattle.book_base.specs.declared.call.Place.{Place}
use Rattle.book_base.specs.SeqSpec.{SeqSpec}
use Rattle.book_base.specs.Book.{Page}
use Rattle.book_base.specs.Order.{IsLegalOrder, HasLegalOrder}
use Rattle.frontier_check.specs.declared.verdict.Verdict.{Verdict}
use Rattle.frontier_check.specs.declared.verdict.Verdict.TheVariants.{Legal, Illegal}

-- A verdict on a book is right: `Legal` carries a legal order of the book, and with `Illegal` the
-- book has no legal order.
abbrev pub IsRight : SeqSpec → List Page → Verdict → Type 0
IsRight spec book (Legal order) = IsLegalOrder spec book order.items
IsRight spec book Illegal = HasLegalOrder spec book → ⊥

-- The places of a guide become those of the legal order that a verdict carries; with `Illegal` they
-- stay.
abbrev pub KeepsLastOrder : List Place → List Place → Verdict → Type 0
KeepsLastOrder old new (Legal order) = new ≡ order.items
KeepsLastOrder old new Illegal = new ≡ old
