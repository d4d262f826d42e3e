-- The book that the rows of the table hold.
use Rattle.std.specs.Prelude.{◌≡◌, ℕ, ◌+◌, ◌<◌, List, map, take, Some, slice_get}
use Rattle.std.specs.List.{range_with_len}
use Rattle.book_base.specs.declared.call.Call.{Call}
use Rattle.book_base.specs.declared.call.Record.{Record}
use Rattle.book_base.specs.OperationWord.{joined}
use Rattle.book_base.specs.Book.{Page, page_of, operation_of, IsValid}
use Rattle.book_base.specs.BookAt.{book_at}
use Rattle.world_core.specs.declared.region.Region.TheVariants.{N, M}
use Rattle.world_core.specs.Shape.{Shape}
use Rattle.world_core.specs.Local.{Local, Given}
use Rattle.world_core.specs.World.{World, Step, local_of, count_of, row_word, IsRun, end_of}
use Rattle.world_core.specs.Calls.{IsPublished, book_in}
use Rattle.world_laws.specs.Books.{IsValidPart}

-- The operation in row k of a caller.
abbrev pub operation_in_row : Shape → World → ℕ → ℕ → ℕ
operation_in_row s w i k = joined (row_word s w N i k 0) (row_word s w N i k 1)

-- The record in row k of a caller.
abbrev pub record_in_row : Shape → World → ℕ → ℕ → Record
record_in_row s w i k = record {
  reply = row_word s w M i k 0;
  view = map (λ j. row_word s w M i k (1 + j)) (range_with_len 0 s.callers);
}

-- The page of a caller's counted rows.
abbrev pub page_in_rows : Shape → World → ℕ → Page
page_in_rows s w i =
    record {
      operations = map (λ k. operation_in_row s w i k) (range_with_len 0 (count_of s w N i));
      records = map (λ k. record_in_row s w i k) (range_with_len 0 (count_of s w M i));
    }

-- The book of all callers' counted rows.
abbrev pub book_in_rows : Shape → World → List Page
book_in_rows s w = map (λ i. page_in_rows s w i) (range_with_len 0 s.callers)

-- The book of the rows is valid, and has just the calls of the book of the locals, with the same
-- operations. Its records of each caller are those of the book of the locals that this caller has
-- published.
pub record AreRowsOf (rows book : List Page) (locals : ℕ → Local) : Type 0 where
  pub valid : IsValid rows
  pub operations : (call : Call) → operation_of rows call ≡ operation_of book call
  pub records : (i : ℕ)
      → (page_of rows i).records ≡ take (locals i).published (page_of book i).records

-- At the end of every run the book of the rows is valid, has just the calls of the book of the
-- locals, and has the records of that book that are published.
abbrev pub RowsAreAValidBook : Type 0
RowsAreAValidBook =
    (s : Shape) (steps : List Step) → IsRun s steps → AreRowsOf (book_in_rows s (end_of s steps))
    (book_in (end_of s steps).locals) (local_of (end_of s steps))

-- The book of the rows at this cut is valid, is the book at this cut of all callers' calls, and has
-- as many records of each caller as the cut counts.
abbrev pub IsInTheRows : Shape → World → List ℕ → Type 0
IsInTheRows s w cut =
    IsValidPart (book_in_rows s w) cut (book_at cut (book_in_rows s w))
    × (book_at cut (book_in_rows s w) ≡ book_at cut (book_in w.locals))

-- The book of the rows at each cut of published records is valid, and is the book at that cut of
-- all callers' calls.
abbrev pub BooksAtCutsAreInTheRows : Type 0
BooksAtCutsAreInTheRows =
    (s : Shape) (steps : List Step) (cut : List ℕ) → IsRun s steps
    → IsPublished (end_of s steps).locals cut → IsInTheRows s (end_of s steps) cut

-- The book of the rows at each cut that a scan of M gave is valid, and is the book at that cut of
-- all callers' calls.
abbrev pub BooksAtGivenCutsAreInTheRows : Type 0
BooksAtGivenCutsAreInTheRows =
    (s : Shape) (steps : List Step) (i p : ℕ) (given : Given) → IsRun s steps → i < s.callers
    → slice_get (local_of (end_of s steps) i).cuts p ≡ Some given → given.region ≡ M
    → IsInTheRows s (end_of s steps) given.cut
