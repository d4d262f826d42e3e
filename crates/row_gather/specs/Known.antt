-- Which rows of a table a caller knows to be counted, and which records it has peeked.
use Rattle.std.specs.Prelude.{◌≡◌, ℕ, ◌<◌, IsTrue, Vec, List, map, slice_index}
use Rattle.book_base.specs.declared.call.Call.{Call}
use Rattle.book_base.specs.declared.call.Record.{Record}
use Rattle.book_base.specs.Book.{Page}
use Rattle.world_core.specs.declared.region.Region.{Region}
use Rattle.world_core.specs.declared.region.Region.TheVariants.{N, M}
use Rattle.world_core.specs.Event.{knows_row}
use Rattle.row_table.specs.declared.caller.Caller.{Caller}
use Rattle.row_table.specs.declared.rows.Rows.{Rows}
use Rattle.row_table.specs.Callers.{local_with}
use Rattle.row_gather.specs.Words.{KnowsRows, ArePeekedRecords, ArePeekedTo, greatest_in}

-- The lists of records that these vectors hold, in order.
abbrev pub lists_in : {A : Type 0} → List (Vec Record A) → List (List Record)
lists_in lists = map (λ records. records.items) lists

-- For each of n callers, `counts` has the greatest count that a view of these records has for it,
-- and 0 where there is no record.
abbrev pub AreGreatest : ℕ → List (List Record) → List ℕ → Type 0
AreGreatest n lists counts = (i : ℕ) → i < n → slice_index counts i ≡ greatest_in lists i

module _ {P : Type 0} where
  -- The caller knows that the row of the call `call` in this region is counted, and so may be
  -- peeked.
  abbrev pub KnowsCall : Rows P → Caller P → Region → Call → Type 0
  KnowsCall r c region call =
      IsTrue (knows_row r.callers (local_with c) region call.caller call.number)

  -- The caller `c` knows that the first `count` rows of caller `j` in this region are counted.
  abbrev pub KnowsFirst : Rows P → Caller P → Region → ℕ → ℕ → Type 0
  KnowsFirst r c region j count = KnowsRows r.callers (local_with c) region j count

  -- The caller knows that the row in M of each record that the cut holds is counted.
  abbrev pub KnowsRecords : Rows P → Caller P → List ℕ → Type 0
  KnowsRecords r c cut = (j : ℕ) → j < r.callers → KnowsFirst r c M j (slice_index cut j)

  -- For each caller `j`, the caller `c` knows that the first rows of `j` in N are counted, as many
  -- as `counts` has for `j`.
  abbrev pub KnowsCalls : Rows P → Caller P → List ℕ → Type 0
  KnowsCalls r c counts = (j : ℕ) → j < r.callers → KnowsFirst r c N j (slice_index counts j)

  -- `records` are the records of the calls of caller `j` with the numbers from `from` up to but not
  -- including `count`, and the caller `c` of the rows has peeked each of their words.
  abbrev pub HasRecords : Rows P → Caller P → ℕ → ℕ → ℕ → List Record → Type 0
  HasRecords r c j from count records =
      ArePeekedRecords r.callers (local_with c) j from count records

  -- `lists` has for each caller the records that the cut holds and the book lacks, and the caller
  -- `c` of the rows has peeked each of their words.
  abbrev pub HasAllRecords : Rows P → Caller P → List Page → List ℕ → List (List Record) → Type 0
  HasAllRecords r c book cut lists = ArePeekedTo r.callers (local_with c) book cut r.callers lists
