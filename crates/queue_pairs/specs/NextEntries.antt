-- The next entries: which calls of a queue's table come next after the calls that a standing
-- covers, and the latest moments at which they may take effect.
use Rattle.std.specs.Prelude.{◌≡◌, ℕ, ◌+◌, ◌<◌, ◌≤◌, ◌⊎◌, nat_lt, max, List, length, Option, Some, None, slice_get, slice_index, slice_index_or, if◌then◌else◌}
use Rattle.book_base.specs.declared.TheConstants.{MAX_CALLERS}
use Rattle.queue_pairs.specs.declared.TheConstants.{NEVER}
use Rattle.queue_pairs.specs.declared.next_entries.NextEntries.{NextEntries}
use Rattle.queue_pairs.specs.declared.next_entries.TimedPair.{TimedPair}
use Rattle.queue_pairs.specs.declared.standing.PairState.{PairState}
use Rattle.queue_pairs.specs.declared.table.Table.{Table}
use Rattle.queue_pairs.specs.declared.table.TimedCall.{TimedCall}
use Rattle.queue_pairs.specs.Pairs.{Paired, Pair}
use Rattle.queue_pairs.specs.Tables.{put_at, take_at, IsFirstFrom}

-- the standing that a `PairState` of the code stands for
abbrev pub paired : PairState → Paired
paired s = record {
  puts = s.puts;
  takes = s.takes;
  found = s.found;
  put_moment = s.put_moment;
  take_moment = s.take_moment;
}

-- the pair that a `TimedPair` of the code stands for: the calls of its entries, with its moments
abbrev pub pair_of : TimedPair → Pair
pair_of pair = record {
  put = pair.put.call;
  take = pair.take.call;
  put_moment = pair.put_moment;
  take_moment = pair.take_moment;
}

-- A value is the least of the values of a function at the numbers below `below`, or `NEVER` where
-- none of these values is less.
pub record IsLeastOf (values : ℕ → ℕ) (below value : ℕ) : Type 0 where
  pub least : (k : ℕ) → k < below → value ≤ values k
  pub some : (value ≡ NEVER) ⊎ ((k : ℕ) × (k < below) × (value ≡ values k))

-- the latest moment at which a call may take effect, or NEVER where there is no call
abbrev pub last_of : Option TimedCall → ℕ
last_of None = NEVER
last_of (Some t) = t.span.last

-- the latest moment at which a call may take effect, where no view up to the moment `found` holds
-- the call; else `NEVER`
abbrev pub last_after : ℕ → Option TimedCall → ℕ
last_after found None = NEVER
last_after found (Some t) = if nat_lt found t.span.first then t.span.last else NEVER

-- the first moment at which a call may take effect, where no view up to the moment `found` holds
-- the call; else `NEVER`
abbrev pub first_after : ℕ → Option TimedCall → ℕ
first_after found None = NEVER
first_after found (Some t) = if nat_lt found t.span.first then t.span.first else NEVER

-- The next entries are right at a standing: they have the next put and the next take of each
-- caller, the first moment of the remaining takes that find nothing, and for puts, for takes and
-- for takes that find nothing the least of the latest moments of those that remain.
pub record AreNextEntries (table : Table) (s : PairState)
    (next_entries : NextEntries) : Type 0 where
  pub puts : (i : ℕ) → i < MAX_CALLERS
      → IsFirstFrom (λ n. put_at table i n) (slice_index s.puts i)
      (slice_index_or next_entries.puts i None)
  pub takes : (i : ℕ) → i < MAX_CALLERS
      → IsFirstFrom (λ n. take_at table i n) (slice_index s.takes i)
      (slice_index_or next_entries.takes i None)
  pub put_limit : IsLeastOf
      (λ i. last_of (slice_index_or next_entries.puts i None)) MAX_CALLERS next_entries.put_limit
  pub take_limit : IsLeastOf
      (λ i. last_of (slice_index_or next_entries.takes i None)) MAX_CALLERS next_entries.take_limit
  pub find_first : IsLeastOf (λ k. first_after s.found (slice_get table.finds.items k))
      (length table.finds.items) next_entries.find_first
  pub find_limit : IsLeastOf (λ k. last_after s.found (slice_get table.finds.items k))
      (length table.finds.items) next_entries.find_limit

-- An entry is some caller's next one: the first that the function `at` finds for the caller from
-- the caller's number in `numbers` on.
abbrev pub IsNextEntry : (ℕ → ℕ → Option TimedCall) → List ℕ → TimedCall → Type 0
IsNextEntry at numbers t = (i : ℕ) × (i < MAX_CALLERS)
    × IsFirstFrom (λ n. at i n) (slice_index numbers i) (Some t)

-- A pair consists of a next put and a next take that some views hold, with the earliest moments at
-- which they may take effect as a pair.
pub record IsNextPair (table : Table) (s : PairState) (pair : TimedPair) : Type 0 where
  pub put : IsNextEntry (λ i n. put_at table i n) s.puts pair.put
  pub take : IsNextEntry (λ i n. take_at table i n) s.takes pair.take
  pub put_held : pair.put.span.first < NEVER
  pub take_held : pair.take.span.first < NEVER
  pub put_moment : pair.put_moment ≡ max s.put_moment pair.put.span.first
  pub take_moment : pair.take_moment ≡ max (max s.take_moment pair.put_moment) pair.take.span.first

-- The pair `other` can replace `pair`: its put and its take did the same as those of `pair`, their
-- moments are no later, and the latest moments at which they may take effect are no later.
pub record CanReplace (other pair : TimedPair) : Type 0 where
  pub put : other.put.deal ≡ pair.put.deal
  pub take : other.take.deal ≡ pair.take.deal
  pub put_moment : other.put_moment ≤ pair.put_moment
  pub take_moment : other.take_moment ≤ pair.take_moment
  pub put_due : other.put.span.last ≤ pair.put.span.last
  pub take_due : other.take.span.last ≤ pair.take.span.last

-- the latest moment of some remaining put is before `put_moment`, or that of some remaining take,
-- of a value or of nothing, is before `take_moment`
abbrev pub IsPast : NextEntries → ℕ → ℕ → Type 0
IsPast next_entries put_moment take_moment = (next_entries.put_limit < put_moment)
    ⊎ (next_entries.take_limit < take_moment) ⊎ (next_entries.find_limit < take_moment)
