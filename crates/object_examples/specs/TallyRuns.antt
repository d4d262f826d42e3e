-- Worked runs over the tally and the cell, and the steps that their programs refuse.
use Rattle.std.specs.Prelude.{ℕ, ◌+◌, ◌*◌, ◌^◌, List, [], ◌∷◌, ◌++◌}
use Rattle.world_core.specs.declared.region.Region.TheVariants.{N}
use Rattle.world_core.specs.Shape.{Shape}
use Rattle.world_core.specs.Event.{Object, Look, Begins_view}
use Rattle.world_core.specs.World.{Step}
use Rattle.world_examples.specs.Schedules.{by, announcement, object_step}
use Rattle.world_objects.specs.OneWord.{one_word_shape}
use Rattle.world_objects.specs.TallyAndCell.{tally, cell}

-- Two callers with one call each over the tally.
abbrev pub tally_pair : Shape
tally_pair = one_word_shape 2 1 tally

-- One caller with one call over the tally.
abbrev pub tally_alone : Shape
tally_alone = one_word_shape 1 1 tally

-- Two callers with one call each over the cell.
abbrev pub cell_pair : Shape
cell_pair = one_word_shape 2 1 cell

-- The operation word of an increment.
abbrev pub increment : ℕ
increment = 2 ^ 32

-- The operation word of a write of 9.
abbrev pub write_nine : ℕ
write_nine = 2 ^ 32 + 9

-- The operation word of a read.
abbrev pub read : ℕ
read = 2 * 2 ^ 32

-- An operation word of code 3, which neither the tally nor the cell knows.
abbrev pub unknown : ℕ
unknown = 3 * 2 ^ 32

-- The reply word `done`.
abbrev pub done : ℕ
done = 0

-- The reply word that gives this value.
abbrev pub value : ℕ → ℕ
value x = 2 * 2 ^ 32 + x

-- The reply word `bad`.
abbrev pub bad : ℕ
bad = 4 * 2 ^ 32

-- A caller makes an object step that finds the word `old` and leaves the word `new`.
abbrev pub finds_and_leaves : ℕ → ℕ → ℕ → Step
finds_and_leaves who old new = by who (Object (object_step 0 old new))

-- The step at which a caller gets a reply: the first look of its view's scan, which finds this
-- count of caller 0 in N.
abbrev pub gets : ℕ → ℕ → ℕ → Step
gets who counted reply = by who (Look N 0 counted (Begins_view reply))

-- Both callers announce an increment.
abbrev pub both_increments : List Step
both_increments = announcement 0 increment (0 ∷ 0 ∷ []) ++ announcement 1 increment (1 ∷ 0 ∷ [])

-- Both callers have announced an increment, and caller 1 has added first.
abbrev pub counted_by_second : List Step
counted_by_second = both_increments ++ finds_and_leaves 1 0 1 ∷ []

-- Both callers have added, caller 1 first, and both reply the words that they found.
abbrev pub counted_by_both : List Step
counted_by_both =
    counted_by_second
    ++ finds_and_leaves 0 1 2
    ∷ gets 0 1 (value 1)
    ∷ gets 1 1 (value 0)
    ∷ []

-- A caller alone increments.
abbrev pub counted_alone : List Step
counted_alone =
    announcement 0 increment (0 ∷ []) ++ finds_and_leaves 0 0 1 ∷ gets 0 1 (value 0) ∷ []

-- What the tally refuses to caller 0 once both callers have announced an increment: to leave
-- another sum, to find another word than the tally has, and the replies 0 and `bad`.
abbrev pub refused_before_adding : List Step
refused_before_adding = finds_and_leaves 0 0 2 ∷ finds_and_leaves 0 0 0 ∷ finds_and_leaves 0 1 2
    ∷ gets 0 1 (value 0) ∷ gets 0 1 bad ∷ []

-- What the tally refuses to caller 1 once it has added: to add again, and to reply the word that it
-- left or `bad`.
abbrev pub refused_after_adding : List Step
refused_after_adding = finds_and_leaves 1 1 2 ∷ gets 1 1 (value 1) ∷ gets 1 1 bad ∷ []

-- Caller 0 announces an operation that neither the tally nor the cell knows.
abbrev pub unknown_announced : List Step
unknown_announced = announcement 0 unknown (0 ∷ 0 ∷ [])

-- Steps and replies that an object refuses to the call of an operation that it doesn't know: a step
-- that changes the word, a step that doesn't, and the replies `done` and `value 0`.
abbrev pub refused_to_unknown : List Step
refused_to_unknown =
    finds_and_leaves 0 0 1 ∷ finds_and_leaves 0 0 0 ∷ gets 0 1 done ∷ gets 0 1 (value 0) ∷ []

-- Caller 0 announces a write of 9, and caller 1 a read.
abbrev pub write_and_read : List Step
write_and_read = announcement 0 write_nine (0 ∷ 0 ∷ []) ++ announcement 1 read (1 ∷ 0 ∷ [])

-- Caller 0 has written 9.
abbrev pub written : List Step
written = write_and_read ++ finds_and_leaves 0 0 9 ∷ []

-- The read of caller 1 has found the 9, and both calls have their replies.
abbrev pub written_and_read : List Step
written_and_read = written ++ finds_and_leaves 1 9 9 ∷ gets 1 1 (value 9) ∷ gets 0 1 done ∷ []

-- What the cell refuses once a write of 9 and a read are announced: to store the whole operation
-- word, to store another value, to change the word as it is read, and a reply before the step.
abbrev pub refused_before_writing : List Step
refused_before_writing =
    finds_and_leaves 0 0 write_nine
    ∷ finds_and_leaves 0 0 8
    ∷ finds_and_leaves 1 0 9
    ∷ gets 0 1 done
    ∷ gets 1 1 (value 0)
    ∷ []

-- What the cell refuses to caller 0 once it has written: to write again, and to reply a value.
abbrev pub refused_after_writing : List Step
refused_after_writing = finds_and_leaves 0 9 9 ∷ gets 0 1 (value 0) ∷ []
