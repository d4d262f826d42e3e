-- Worked calls of one caller and of two, and which of them are in one log.
use Rattle.std.specs.Prelude.{ℕ, zero, suc, List, [], ◌∷◌}
use Rattle.shared_words.specs.declared.entry.Entry.{Entry}
use Rattle.world_core.specs.Calls.{Is_announced, Has_record, Made}
use Rattle.world_examples.specs.Histories.{numbering}
use Rattle.test_objects.specs.Replays.{last_reply}

-- The answer to a log of an object that replies to each operation with the number of operations
-- before it.
abbrev pub count_before : List Entry → ℕ
count_before = last_reply numbering.next []

-- A call of this operation that was answered with this reply.
abbrev pub answered_with : ℕ → ℕ → Made
answered_with operation reply =
    record { operation = operation; reached = Has_record (record { reply = reply; view = [] }) }

-- The calls of each caller: caller 0 has the record of one call, with this reply, and each other
-- caller has announced one call.
abbrev pub one_answered : ℕ → ℕ → List Made
one_answered reply zero = answered_with 5 reply ∷ []
one_answered reply (suc i) = record { operation = 6; reached = Is_announced } ∷ []

-- How many phases each caller has made: caller 0 three, and each other caller this many.
abbrev pub others_made : ℕ → ℕ → ℕ
others_made phases zero = 3
others_made phases (suc i) = phases

-- The calls of each caller: two, of which the first was answered with 1 and the second with 0.
abbrev pub answered_backwards : ℕ → List Made
answered_backwards i = answered_with 5 1 ∷ answered_with 7 0 ∷ []

-- How many phases each caller has made: all ten phases of two calls.
abbrev pub both_made : ℕ → ℕ
both_made i = 10
