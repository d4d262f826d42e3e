-- An error is final: where the book at a cut of a valid book has no legal order, the book at each
-- larger cut has none.
use Rattle.std.specs.Prelude.{ℕ, List, take}
use Rattle.book_base.specs.declared.call.Place.{Place}
use Rattle.book_base.specs.SeqSpec.{SeqSpec}
use Rattle.book_base.specs.Cut.{IsWithin}
use Rattle.book_base.specs.Book.{Page, IsValid}
use Rattle.book_base.specs.BookAt.{book_at}
use Rattle.book_base.specs.Order.{IsLegalOrder, HasLegalOrder}

-- Some prefix of each legal order of the book at a cut of a valid book is a legal order of the book
-- at a smaller cut.
abbrev pub SomePrefixIsLegal : Type 0
SomePrefixIsLegal = (spec : SeqSpec) (book : List Page)
    (smaller larger : List ℕ) (order : List Place)
    → IsValid book → IsWithin smaller larger → IsLegalOrder spec (book_at larger book) order
    → (n : ℕ) × IsLegalOrder spec (book_at smaller book) (take n order)

-- Where the book at a cut of a valid book has a legal order, the book at each smaller cut has one.
abbrev pub SmallerHasOne : Type 0
SmallerHasOne =
    (spec : SeqSpec) (book : List Page) (smaller larger : List ℕ)
    → IsValid book → IsWithin smaller larger → HasLegalOrder spec (book_at larger book)
    → HasLegalOrder spec (book_at smaller book)

-- Where the book at a cut of a valid book has no legal order, the book at each larger cut has none.
abbrev pub LargerHasNone : Type 0
LargerHasNone =
    (spec : SeqSpec) (book : List Page) (smaller larger : List ℕ)
    → IsValid book → IsWithin smaller larger → ¬ HasLegalOrder spec (book_at smaller book)
    → ¬ HasLegalOrder spec (book_at larger book)
