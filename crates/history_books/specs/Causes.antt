-- Why calls have no book with so many callers.
use Rattle.std.specs.Prelude.{◌≡◌, ℕ, ◌+◌, ◌<◌, ◌⊎◌, List, length, Some, slice_get}
use Rattle.book_base.specs.declared.call.Call.{Call}
use Rattle.book_base.specs.declared.TheConstants.{MAX_CALLERS, MAX_CALLS}
use Rattle.history_books.specs.declared.timed_call.TimedCall.{TimedCall}
use Rattle.history_books.specs.declared.history_book.HistoryError.{HistoryError}
use Rattle.history_books.specs.declared.history_book.HistoryError.TheVariants.{TooMany, Long, NoMemory}
use Rattle.history_books.specs.Calls.{LogPrecedes}

-- The first calls, as many as there are names, are given to callers: no two calls have one name,
-- the calls of a caller are numbered from 0 on, and of two calls of one caller the one with the
-- lesser number precedes the other.
pub record AreGiven (calls : List TimedCall) (names : List Call) : Type 0 where
  pub apart : (j k : ℕ) (name : Call) → slice_get names j ≡ Some name
      → slice_get names k ≡ Some name → j ≡ k
  pub numbered : (k number : ℕ) (name : Call) → slice_get names k ≡ Some name
      → number < name.number
      → (j : ℕ) × (slice_get names j ≡ Some (record { caller = name.caller; number = number }))
  pub turns : (j k : ℕ) (a b : Call) → slice_get names j ≡ Some a → slice_get names k ≡ Some b
      → a.caller ≡ b.caller → a.number < b.number → LogPrecedes calls j k

-- A caller has a call that doesn't precede the next one.
pub record IsBusy (calls : List TimedCall) (names : List Call) (i : ℕ) : Type 0 where
  pub place : ℕ
  pub name : Call
  pub named : slice_get names place ≡ Some name
  pub its : name.caller ≡ i
  pub overlaps : LogPrecedes calls place (length names) → ⊥

-- A caller has as many calls as a caller may have, the last of which is named so.
abbrev pub IsFull : List Call → ℕ → Type 0
IsFull names i = (k : ℕ) × (last : Call) × (slice_get names k ≡ Some last) × (last.caller ≡ i)
    × (last.number + 1 ≡ MAX_CALLS)

-- Of so many callers none can take the call at a place, where the calls before it are given to
-- them so.
pub record NoneTakes (callers : ℕ) (calls : List TimedCall) (place : ℕ) (names : List Call)
    : Type 0 where
  pub call : place < length calls
  pub before : length names ≡ place
  pub given : AreGiven calls names
  pub taken : (i : ℕ) → i < callers → IsBusy calls names i ⊎ IsFull names i

-- The cause of an error, where there may be so many callers. `TooMany`: the calls before the one at
-- this place can be given to the callers so that each of them has a call which doesn't precede it.
-- `Long`: they can be given so that each caller that has no such call has as many calls as a caller
-- may have, and there is such a caller.
abbrev pub IsCauseFor : ℕ → List TimedCall → HistoryError → Type 0
IsCauseFor callers calls (TooMany place) = (names : List Call)
    × NoneTakes callers calls place names
    × ((i : ℕ) → i < callers → IsBusy calls names i)
IsCauseFor callers calls (Long place) = (names : List Call) × NoneTakes callers calls place names
    × ((i : ℕ) × (i < callers) × IsFull names i)
IsCauseFor callers calls NoMemory = Unit {0}

-- The cause of an error, where there may be as many callers as a book may have.
abbrev pub IsCause : List TimedCall → HistoryError → Type 0
IsCause calls e = IsCauseFor MAX_CALLERS calls e
