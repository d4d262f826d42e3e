-- The calls that are marked in a picture.
use Rattle.std.specs.Prelude.{ℕ, Bool, ◌==◌, List, [], map, Vec, slice_index_or}
use Rattle.std.specs.List.{list_any}
use Rattle.std.specs.declared.alloc.Global.{Global}
use Rattle.book_base.specs.declared.call.Call.{Call}
use Rattle.book_picture.specs.declared.marked_calls.MarkedCalls.{MarkedCalls}
use Rattle.book_picture.specs.declared.marked_calls.MarkedCalls.TheVariants.{Unasked, Smaller, TooLarge, NoMemory}

-- The lists of numbers that a list of vectors holds.
abbrev pub numbers_in : List (Vec ℕ Global) → List (List ℕ)
numbers_in rows = map (λ row. row.items) rows

-- The numbers of the marked calls, a list for each caller; empty where no calls are marked.
abbrev pub marked_numbers : MarkedCalls → List (List ℕ)
marked_numbers (Smaller numbers) = numbers_in numbers.items
marked_numbers Unasked = []
marked_numbers TooLarge = []
marked_numbers NoMemory = []

-- Whether the number of a call is in the list of its caller, where `names` has a list for each
-- caller.
abbrev pub is_named : List (List ℕ) → Call → Bool
is_named names call =
    list_any (λ number. number == call.number) (slice_index_or names call.caller [])

-- Whether a call is marked in the picture.
abbrev pub is_marked : MarkedCalls → Call → Bool
is_marked marks call = is_named (marked_numbers marks) call
