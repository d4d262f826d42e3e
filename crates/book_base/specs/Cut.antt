-- Cuts: a count of calls for each caller.
use Rattle.std.specs.Prelude.{ℕ, ◌<◌, ◌≤◌, ◌⊎◌, List, slice_index}
use Rattle.book_base.specs.declared.call.Call.{Call}

-- A cut holds a call exactly where the call's number is below the cut's count for its caller
-- (Castañeda and Rodríguez 2023).
abbrev pub Holds : List ℕ → Call → Type 0
Holds cut call = call.number < slice_index cut call.caller

-- A cut is within another of the same callers where no count is greater.
abbrev pub IsWithin : List ℕ → List ℕ → Type 0
IsWithin a b = (i : ℕ) → slice_index a i ≤ slice_index b i

-- Two cuts of the same callers are comparable where one is within the other.
abbrev pub AreComparable : List ℕ → List ℕ → Type 0
AreComparable a b = IsWithin a b ⊎ IsWithin b a
