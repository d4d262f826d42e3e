-- Two objects of one word: the tally, which serves the counter, and the cell, which serves the
-- register.
use Rattle.std.specs.Prelude.{ℕ, ◌+◌, ◌%◌, ◌^◌, ◌||◌, if◌then◌else◌, List, [], ◌∷◌}
use Rattle.seq_objects.specs.declared.kind.Kind.TheVariants.{Counter, Register}
use Rattle.seq_objects.specs.Objects.{kind_spec}
use Rattle.seq_objects.specs.Words.{is_operation_of, argument_of}
use Rattle.seq_objects.specs.Words as words
use Rattle.seq_objects.specs.Replies.{reply_done, reply_value}
use Rattle.world_core.specs.World.{Step, IsRun}
use Rattle.world_core.specs.History.{IsLinearizable, history_of}
use Rattle.world_objects.specs.OneWord.{OneWord, Serves, one_word_shape}

-- The tally: an increment adds 1 to its word, modulo 2 ^ 64, and replies the word that it found,
-- modulo 2 ^ 32.
abbrev pub tally : OneWord
tally =
    record {
      makes_step = λ operation. is_operation_of operation words.inc;
      leaves = λ operation x. (x + 1) % 2 ^ 64;
      replies = λ operation x. reply_value x;
    }

-- The list of the counter that a word of the tally represents: its one item is the word modulo 2 ^
-- 32.
abbrev pub count_in : ℕ → List ℕ
count_in x = x % 2 ^ 32 ∷ []

-- The cell: a write stores its argument and replies `done`, and a read leaves the word as it is and
-- replies it, modulo 2 ^ 32.
abbrev pub cell : OneWord
cell =
    record {
      makes_step = λ operation. is_operation_of operation words.write
          || is_operation_of operation words.read;
      leaves =
          λ operation x. if is_operation_of operation words.write then argument_of operation else x;
      replies = λ operation x. if is_operation_of operation words.write then reply_done
          else reply_value x;
    }

-- The list of the register that a word of the cell represents.
abbrev pub value_in : ℕ → List ℕ
value_in x = x ∷ []

-- The tally serves the counter.
abbrev pub TallyServesCounter : Type 0
TallyServesCounter = Serves tally count_in (kind_spec Counter)

-- The cell serves the register.
abbrev pub CellServesRegister : Type 0
CellServesRegister = Serves cell value_in (kind_spec Register)

-- The object history of every run of the tally is linearizable for the counter.
abbrev pub TalliesLinearize : Type 0
TalliesLinearize =
    (n cap : ℕ) (steps : List Step) → IsRun (one_word_shape n cap tally) steps
    → IsLinearizable (kind_spec Counter)
    (history_of (one_word_shape n cap tally) steps)

-- The object history of every run of the cell is linearizable for the register.
abbrev pub CellsLinearize : Type 0
CellsLinearize =
    (n cap : ℕ) (steps : List Step) → IsRun (one_word_shape n cap cell) steps
    → IsLinearizable (kind_spec Register)
    (history_of (one_word_shape n cap cell) steps)
