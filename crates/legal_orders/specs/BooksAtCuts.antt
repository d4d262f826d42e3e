-- What holds of the book at a cut.
use Rattle.std.specs.Prelude.{◌≡◌, ℕ, ◌↔◌, List, length, Some}
use Rattle.book_base.specs.declared.call.Call.{Call}
use Rattle.book_base.specs.declared.call.Record.{Record}
use Rattle.book_base.specs.SeqSpec.{SeqSpec}
use Rattle.book_base.specs.Cut.{Holds, IsWithin}
use Rattle.book_base.specs.Book.{Page, IsCall, operation_of, record_of, answered, IsValid}
use Rattle.book_base.specs.BookAt.{IsBookAt, book_at}
use Rattle.book_base.specs.Order.{HasLegalOrder}

-- The computed book at a cut of a valid book is the book at that cut, as `IsBookAt` states it.
abbrev pub IsTheBookAt : Type 0
IsTheBookAt = (book : List Page) (cut : List ℕ) → IsValid book
    → IsBookAt book cut (book_at cut book)

-- A book that is the book at a cut of a valid book, as `IsBookAt` states it, is the computed one.
abbrev pub IsTheOnlyOne : Type 0
IsTheOnlyOne = (book : List Page) (cut : List ℕ) (part : List Page) → IsValid book
    → IsBookAt book cut part → part ≡ book_at cut book

-- The book at a cut of a valid book is valid.
abbrev pub StaysValid : Type 0
StaysValid = (book : List Page) (cut : List ℕ) → IsValid book → IsValid (book_at cut book)

-- The book at a smaller cut of the book at a larger cut of a valid book is the book at the smaller
-- cut of the whole book.
abbrev pub IsTheBookAtTheSmaller : Type 0
IsTheBookAtTheSmaller = (book : List Page) (smaller larger : List ℕ) → IsValid book
    → IsWithin smaller larger
    → book_at smaller (book_at larger book) ≡ book_at smaller book

-- Where a cut of a book's callers counts for each no more records than the book has, the record
-- counts of the book at the cut are the cut.
abbrev pub RecordCountsAreTheCut : Type 0
RecordCountsAreTheCut = (book : List Page) (cut : List ℕ) → length cut ≡ length book
    → IsWithin cut (answered book)
    → answered (book_at cut book) ≡ cut

-- The book at the cut of all records of a valid book has exactly the records of the book.
abbrev pub KeepsEachRecord : Type 0
KeepsEachRecord = (book : List Page) (call : Call) → IsValid book
    → record_of (book_at (answered book) book) call ≡ record_of book call

-- some view of the book holds the call
abbrev pub IsHeldByAView : List Page → Call → Type 0
IsHeldByAView book call = (other : Call) × (r : Record) × (record_of book other ≡ Some r)
    × Holds r.view call

-- The book at the cut of all records of a valid book has exactly those calls of the book that some
-- view holds.
abbrev pub KeepsEachHeldCall : Type 0
KeepsEachHeldCall = (book : List Page) (call : Call) → IsValid book
    → IsCall (book_at (answered book) book) call ↔ IsCall book call × IsHeldByAView book call

-- Each call of the book at the cut of all records of a valid book has the operation that the book
-- has for it.
abbrev pub KeepsEachOperation : Type 0
KeepsEachOperation = (book : List Page) (call : Call) → IsValid book
    → IsCall (book_at (answered book) book) call
    → operation_of (book_at (answered book) book) call ≡ operation_of book call

-- The book at the cut of all records of a valid book has a legal order exactly where the book has
-- one.
abbrev pub HasOneWhereTheBookHas : Type 0
HasOneWhereTheBookHas = (spec : SeqSpec) (book : List Page)
    → IsValid book
    → HasLegalOrder spec (book_at (answered book) book) ↔ HasLegalOrder spec book
