-- Which verdicts of the search for a legal set order are right.
use Rattle.std.specs.Prelude.{ℕ, List, Option}
use Rattle.book_base.specs.Book.{Page}
use Rattle.set_order.specs.declared.verdict.SetVerdict.{SetVerdict}
use Rattle.set_order.specs.declared.verdict.SetVerdict.TheVariants.{Legal, Illegal}
use Rattle.set_order.specs.SetOrder.{IsLegalSetOrder, HasLegalSetOrder}

-- A verdict on a book is right: `Legal` carries a legal set order of the book, and with `Illegal`
-- the book has none.
abbrev pub IsRightSetVerdict : List ℕ → (List ℕ → List ℕ → Option (List ℕ × List ℕ)) → List Page
    → SetVerdict → Type 0
IsRightSetVerdict init served book (Legal order) = IsLegalSetOrder init served book order.items
IsRightSetVerdict init served book Illegal = HasLegalSetOrder init served book → ⊥
