-- Adding records to a book: a caller's further records come after those that the book has of this
-- caller.
use Rattle.std.specs.Prelude.{◌≡◌, ℕ, List, ◌++◌, length, map, slice_set}
use Rattle.std.specs.List.{range_with_len}
use Rattle.book_base.specs.declared.call.Record.{Record}
use Rattle.book_base.specs.Book.{Page, page_of}
use Rattle.row_gather.specs.Words.{records_at}

-- The book `book` with `records` added after the records that it has of caller `j`.
abbrev pub with_records : List Page → ℕ → List Record → List Page
with_records book j records =
    slice_set book j (record (page_of book j) { records = (page_of book j).records ++ records })

-- The book `book` with further records of all its callers: those at place `i` of `lists` are added
-- after the records that the book has of caller `i`.
abbrev pub filled : List Page → List (List Record) → List Page
filled book lists =
    map (λ i. record {
      operations = (page_of book i).operations;
      records = (page_of book i).records ++ records_at lists i;
    }) (range_with_len 0 (length book))

-- The book `other` is `book` with further records: it has as many callers and the operations of
-- `book`, and of each caller `i` the records of `book` followed by those at place `i` of `lists`.
pub record IsFilled (book : List Page) (lists : List (List Record))
    (other : List Page) : Type 0 where
  pub callers : length other ≡ length book
  pub operations : (i : ℕ) → (page_of other i).operations ≡ (page_of book i).operations
  pub records : (i : ℕ) → (page_of other i).records ≡ (page_of book i).records ++ records_at lists i
