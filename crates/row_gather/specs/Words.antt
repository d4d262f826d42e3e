-- The row words that a book has, and what it means that a caller has peeked them.
use Rattle.std.specs.Prelude.{◌≡◌, ◌≢◌, ℕ, ◌+◌, ◌*◌, ◌<◌, IsTrue, max, sum, List, [], ◌∷◌, length, map, Some, slice_get, slice_index, slice_index_or}
use Rattle.book_base.specs.declared.call.Call.{Call}
use Rattle.book_base.specs.declared.call.Record.{Record}
use Rattle.book_base.specs.OperationWord.{low_of, high_of}
use Rattle.book_base.specs.Book.{Page, page_of, calls_of, answers_of, announced, answered, operation_of}
use Rattle.book_base.specs.BookAt.{greatest_count}
use Rattle.world_core.specs.declared.region.Region.{Region}
use Rattle.world_core.specs.declared.region.Region.TheVariants.{N, M}
use Rattle.world_core.specs.Local.{Local}
use Rattle.world_core.specs.Event.{knows_row}
use Rattle.world_core.specs.Calls.{HasPeeked}

-- How many row words a book has: two for each call, and for each record one for its reply and one
-- for each entry of its view, which has as many entries as the book has callers.
abbrev pub words_of_book : List Page → ℕ
words_of_book book = 2 * sum (announced book) + (1 + length book) * sum (answered book)

-- A book of two callers with one call each: the call of caller 0 is answered, and that of caller 1
-- isn't.
abbrev pub one_answered : List Page
one_answered =
    record { operations = 7 ∷ []; records = record { reply = 5; view = 1 ∷ 0 ∷ [] } ∷ [] }
    ∷ record { operations = 9 ∷ []; records = [] } ∷ []

-- One of n callers, with the local `l`, knows that the first `count` rows of caller `j` in the
-- region are counted.
abbrev pub KnowsRows : ℕ → Local → Region → ℕ → ℕ → Type 0
KnowsRows n l region j count = (k : ℕ) → k < count → IsTrue (knows_row n l region j k)

-- A caller with the local `l` has peeked both words of the operation `op`, the low and the high
-- one, in the row that the call has in N.
abbrev pub IsPeekedOperation : Local → Call → ℕ → Type 0
IsPeekedOperation l call op = HasPeeked l N call 0 (low_of op) × HasPeeked l N call 1 (high_of op)

-- The view has n entries, and a caller with the local `l` has peeked each of them in the row that
-- the call has in M.
abbrev pub IsPeekedView : ℕ → Local → Call → List ℕ → Type 0
IsPeekedView n l call view = (length view ≡ n)
    × ((j : ℕ) → j < n → HasPeeked l M call (1 + j) (slice_index view j))

-- A caller with the local `l` has peeked the reply and the n entries of the view of the record `r`
-- in the row that the call has in M.
pub record IsPeekedRecord (n : ℕ) (l : Local) (call : Call) (r : Record) : Type 0 where
  pub reply : HasPeeked l M call 0 r.reply
  pub view : IsPeekedView n l call r.view

-- `records` are, in order, the records of the calls of caller `j` with the numbers from `from` up
-- to but not including `count`, and a caller with the local `l` has peeked each of them in the row
-- that its call has in M.
pub record ArePeekedRecords (n : ℕ) (l : Local) (j from count : ℕ)
    (records : List Record) : Type 0 where
  pub long : from + length records ≡ count
  pub each : (k : ℕ) (r : Record) → slice_get records k ≡ Some r
      → IsPeekedRecord n l (record { caller = j; number = from + k }) r

-- The list of caller `j` among the lists of records of all callers; it is empty where `lists` has
-- no place for `j`.
abbrev pub records_at : List (List Record) → ℕ → List Record
records_at lists j = slice_index_or lists j []

-- `lists` has, for each caller with a number below `callers`, the records that the cut holds and
-- the book lacks, and one of n callers, with the local `l`, has peeked each of them.
pub record ArePeekedTo (n : ℕ) (l : Local) (book : List Page) (cut : List ℕ) (callers : ℕ)
    (lists : List (List Record)) : Type 0 where
  pub wide : length lists ≡ callers
  pub each : (j : ℕ) → j < callers
      → ArePeekedRecords n l j (answers_of book j) (slice_index cut j) (records_at lists j)

-- The greatest count for caller `i` in the views of these records; 0 where there is no record.
abbrev pub greatest_of : List Record → ℕ → ℕ
greatest_of records i = greatest_count (map (λ (r : Record). r.view) records) i

-- The greatest count for caller `i` in the views of the records of all callers; 0 where there is no
-- record.
abbrev pub greatest_in : List (List Record) → ℕ → ℕ
greatest_in [] i = 0
greatest_in (records ∷ lists) i = max (greatest_of records i) (greatest_in lists i)

-- Each of these records has a view of n entries.
abbrev pub AreWide : ℕ → List Record → Type 0
AreWide n records = (k : ℕ) (r : Record) → slice_get records k ≡ Some r → length r.view ≡ n

-- A caller with this local has peeked both words of the operation of each call of the book.
abbrev pub ArePeekedOperations : Local → List Page → Type 0
ArePeekedOperations l book = (call : Call) (op : ℕ) → operation_of book call ≡ Some op
    → IsPeekedOperation l call op

-- The book `other` has the callers and the records of `book`, and a caller with this local has
-- peeked the operation of each call of `other`.
pub record HasPeekedCalls (l : Local) (book other : List Page) : Type 0 where
  pub callers : length other ≡ length book
  pub records : (i : ℕ) → (page_of other i).records ≡ (page_of book i).records
  pub operations : ArePeekedOperations l other

-- The book `other` has as many calls as `book` of each caller but `j`. Of caller `j` it has `count`
-- calls, or as many as `book` where `book` has more.
pub record IsLengthenedTo (j count : ℕ) (book other : List Page) : Type 0 where
  pub mine : calls_of other j ≡ max (calls_of book j) count
  pub others : (i : ℕ) → i ≢ j → calls_of other i ≡ calls_of book i

-- The counter of steps has risen from `before` to `after` by 1 + n for each of the `count` - `from`
-- records: by 1 for its reply, and by n for the entries of its view.
abbrev pub TicksForRecords : ℕ → ℕ → ℕ → ℕ → ℕ → Type 0
TicksForRecords n from count before after = after + (1 + n) * from ≡ before + (1 + n) * count

-- The counter of steps has risen from `before` to `after` by 2 for each call that the book `other`
-- has more than `book`: for the two words of the call's operation.
abbrev pub TicksForCalls : List Page → List Page → ℕ → ℕ → Type 0
TicksForCalls book other before after =
    after + 2 * sum (announced book) ≡ before + 2 * sum (announced other)
