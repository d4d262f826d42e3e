-- The calls of a book that may have put a value in, or taken it, by the reply to one of its calls:
-- how many there are.
use Rattle.std.specs.Prelude.{ℕ, zero, suc, ◌+◌, ◌==◌, ◌&&◌, ◌||◌, nat_lt, nat_le, not, Bool, true, false, List, [], ◌∷◌, length, slice_index, Option, Some, None}
use Rattle.book_base.specs.declared.call.Call.{Call}
use Rattle.book_base.specs.declared.call.Record.{Record}
use Rattle.book_base.specs.Book.{Page, calls_of, record_of}
use Rattle.legal_orders.specs.Container.{one_if}
use Rattle.legal_orders.specs.Deals.{Deal}
use Rattle.broken_rules.specs.declared.tally.Tally.{Tally}
use Rattle.broken_rules.specs.declared.tally.Tally.TheVariants as tallies
use Rattle.broken_rules.specs.Deeds.{value_by, is_put, is_take, is_open}

-- How many of a caller's calls with a number below `below` pass a test.
abbrev pub count_of_caller : (Call → Bool) → ℕ → ℕ → ℕ
count_of_caller test caller zero = 0
count_of_caller test caller (suc below) = count_of_caller test caller below
    + one_if (test (record { caller = caller; number = below }))

-- How many calls of those callers of a book that are below `below` pass a test.
abbrev pub count_below : (Call → Bool) → List Page → ℕ → ℕ
count_below test book zero = 0
count_below test book (suc below) =
    count_below test book below + count_of_caller test below (calls_of book below)

-- How many calls of a book pass a test.
abbrev pub count_calls : (Call → Bool) → List Page → ℕ
count_calls test book = count_below test book (length book)

-- Whether a cut holds a call.
abbrev pub holds : List ℕ → Call → Bool
holds cut call = nat_lt call.number (slice_index cut call.caller)

-- Whether no count of a cut is greater than that of another cut.
abbrev pub is_within : List ℕ → List ℕ → Bool
is_within [] other = true
is_within (count ∷ counts) [] = nat_le count 0 && is_within counts []
is_within (count ∷ counts) (limit ∷ limits) = nat_le count limit && is_within counts limits

-- Whether there is an answer whose view holds the call `call`.
abbrev pub ends_after : Call → Option Record → Bool
ends_after call None = false
ends_after call (Some r) = holds r.view call

-- Whether there are two answers, and the view of the second one is within that of the first one.
abbrev pub ends_within : Option Record → Option Record → Bool
ends_within None other = false
ends_within (Some last) None = false
ends_within (Some last) (Some r) = is_within r.view last.view

-- Whether there is an answer whose view doesn't hold the call `call`.
abbrev pub ends_before : Call → Option Record → Bool
ends_before call None = false
ends_before call (Some r) = not (holds r.view call)

-- Whether a call is counted, for the value `value` and the call `last`; `deal` is what a
-- call did.
abbrev pub is_tallied : (Call → Deal) → List Page → Tally → ℕ → Call → Call → Bool
-- it took the value, and its view is within the view of `last`
is_tallied deal book tallies.TakenBy value last call =
    (is_take (deal call) && (value_by (deal call) == value))
    && ends_within (record_of book last) (record_of book call)
-- it puts the value in, and the view of `last` holds it
is_tallied deal book tallies.PutBy value last call =
    (is_put (deal call) && (value_by (deal call) == value)) && ends_after call (record_of book last)
-- it puts the value in, and its view doesn't hold `last`
is_tallied deal book tallies.PutBefore value last call =
    (is_put (deal call) && (value_by (deal call) == value))
    && ends_before last (record_of book call)
-- it took the value, or is a take without an answer, and the view of `last` holds it
is_tallied deal book tallies.TakableBy value last call =
    ((is_take (deal call) && (value_by (deal call) == value)) || is_open (deal call))
    && ends_after call (record_of book last)

-- How many calls of a book are counted, for the value `value` and the call `last`.
abbrev pub tally_of : (Call → Deal) → List Page → Tally → ℕ → Call → ℕ
tally_of deal book tally value last = count_calls (is_tallied deal book tally value last) book
