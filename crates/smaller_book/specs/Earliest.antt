-- The rule of earlier cuts: where the book at an earlier cut has no legal order, the whole book has
-- none either. So the book at the earlier cut shows that the whole book has no legal order.
use Rattle.std.specs.Prelude.{◌≡◌, ℕ, ◌-◌, ◌<◌, ◌≤◌, ◌⊎◌, List, length, map, slice_index, slice_set}
use Rattle.std.specs.List.{range_with_len}
use Rattle.book_base.specs.declared.call.Call.{Call}
use Rattle.book_base.specs.SeqSpec.{SeqSpec}
use Rattle.book_base.specs.Cut.{IsWithin}
use Rattle.book_base.specs.Book.{Page, IsCall, calls_of, answers_of, answered}
use Rattle.book_base.specs.BookAt.{book_at}
use Rattle.book_base.specs.Order.{HasLegalOrder}
use Rattle.book_base.specs.Pruning.{HasOneOpen}
use Rattle.legal_orders.specs.BooksAtCuts.{IsHeldByAView}
use Rattle.smaller_book.specs.declared.TheConstants.{FEW_CALLS}
use Rattle.smaller_book.specs.Part.{size_of}

-- For each caller of a book the numbers of all its calls, from 0 up.
abbrev pub all_numbers : List Page → List (List ℕ)
all_numbers book = map (λ i. range_with_len 0 (calls_of book i)) (range_with_len 0 (length book))

-- A part is the book at some cut within the book's records.
pub record IsAtSomeCut (book part : List Page) : Type 0 where
  pub cut : List ℕ
  pub within : IsWithin cut (answered book)
  pub at_cut : part ≡ book_at cut book

-- A book is tried at a cut where it has at most `FEW_CALLS` calls, where some view of it holds
-- several unanswered calls of one caller, or where each view of the book at the cut holds at most
-- one unanswered call of each caller.
abbrev pub IsTried : List Page → List ℕ → Type 0
IsTried book cut = (size_of book ≤ FEW_CALLS) ⊎ (¬ HasOneOpen book) ⊎ HasOneOpen (book_at cut book)

-- A book is earliest where it has a legal order at each earlier cut at which it is tried, and each
-- of its calls is in some view.
pub record IsEarliest (spec : SeqSpec) (book : List Page) : Type 0 where
  -- the book has a legal order at each cut within its records that lacks a record of some caller
  -- and at which the book is tried
  pub earlier : (cut : List ℕ) (i : ℕ) → IsWithin cut (answered book) → slice_index cut i
      < answers_of book i → IsTried book cut → HasLegalOrder spec (book_at cut book)
  -- each call of the book is in some view of it
  pub held : (call : Call) → IsCall book call → IsHeldByAView book call

-- A cut within the records of a book, with one count for each caller, at which the book has no
-- legal order.
pub record IsIllegalCut (spec : SeqSpec) (book : List Page) (cut : List ℕ) : Type 0 where
  pub wide : length cut ≡ length book
  pub within : IsWithin cut (answered book)
  pub illegal : ¬ HasLegalOrder spec (book_at cut book)

-- The cut with the count of one caller lowered by 1; a count of 0 stays 0.
abbrev pub one_less : List ℕ → ℕ → List ℕ
one_less cut i = slice_set cut i (slice_index cut i - 1)

-- A cut is least for a caller where it has no record of this caller, or the book has a legal order
-- at the cut with one record less of this caller.
abbrev pub IsLeastAt : SeqSpec → List Page → List ℕ → ℕ → Type 0
IsLeastAt spec book cut i = (slice_index cut i ≡ 0)
    ⊎ HasLegalOrder spec (book_at (one_less cut i) book)

-- A book is legal below a count of a caller, within a cut: take any cut within the given one that
-- counts fewer records of the caller than `count`. Where each view of the book at it holds at most
-- one unanswered call of each caller, the book at it has a legal order.
abbrev pub IsLegalBelow : SeqSpec → List Page → List ℕ → ℕ → ℕ → Type 0
IsLegalBelow spec book cut i count = (other : List ℕ) → IsWithin other cut
    → slice_index other i < count → HasOneOpen (book_at other book)
    → HasLegalOrder spec (book_at other book)

-- A cut at which a book has no legal order. At each lesser cut the book has one, provided that each
-- view of the book at that lesser cut holds at most one unanswered call of each caller.
pub record IsLeastOpenCut (spec : SeqSpec) (book : List Page) (cut : List ℕ) : Type 0 where
  pub here : IsIllegalCut spec book cut
  pub least : (i : ℕ) → IsLegalBelow spec book cut i (slice_index cut i)

-- A least cut: the book has no legal order at it, while it has one at each lesser cut at which the
-- book at the least cut is tried.
pub record IsLeastCut (spec : SeqSpec) (book : List Page) (cut : List ℕ) : Type 0 where
  pub here : IsIllegalCut spec book cut
  pub least : (other : List ℕ) (i : ℕ) → IsWithin other cut
      → slice_index other i < slice_index cut i → IsTried (book_at cut book) other
      → HasLegalOrder spec (book_at other book)
