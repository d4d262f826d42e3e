-- The tally serves the counter and the cell the register, so that their runs are linearizable.
use Rattle.std.proofs.Common.{◌≡◌, ℕ, ◌+◌, ◌*◌, ◌%◌, ◌^◌, true, false, ◌||◌, if◌then◌else◌, List, [], ◌∷◌, refl, sym, ap, ◌∙◌, arith, inl, inr}
use Rattle.std.proofs.lemmas.Bool.{cases_Bool}
use Rattle.book_base.specs.declared.TheConstants.{BAD}
use Rattle.book_base.specs.SeqSpec.{spec_from}
use Rattle.seq_objects.specs.declared.kind.Kind.TheVariants.{Counter, Register}
use Rattle.seq_objects.specs.Objects.{kind_next, kind_spec}
use Rattle.seq_objects.specs.Words.{is_operation_of, argument_of}
use Rattle.seq_objects.specs.Words as words
use Rattle.seq_objects.specs.Replies.{reply_done, reply_value}
use Rattle.seq_objects.specs.CounterSteps.{counter_operation, counter_after, counter_after-inc, counter_after-other}
use Rattle.seq_objects.specs.RegisterSteps.{register_operation, register_after, register_after-write, register_after-read, register_after-other}
use Rattle.world_core.specs.World.{Step, IsRun}
use Rattle.world_core.specs.History.{IsLinearizable, history_of}
use Rattle.world_objects.specs.OneWord.{one_word_shape}
use Rattle.world_objects.specs.TallyAndCell.{tally, count_in, cell, value_in, TallyServesCounter, CellServesRegister, TalliesLinearize, CellsLinearize}
use Rattle.world_objects.proofs.OneWords.{one_words_linearize}

-- a count modulo 2 ^ 64 agrees with one modulo 2 ^ 32
counts_agree : (x : ℕ) → (x % 2 ^ 32 + 1) % 2 ^ 32 ≡ (x + 1) % 2 ^ 64 % 2 ^ 32
counts_agree x = omega arith

counts : (operation x : ℕ) → tally.makes_step operation ≡ true → kind_next Counter
    (count_in x) operation ≡ (count_in (tally.leaves operation x), tally.replies operation x)
unfolding kind_next
counts operation x inc =
    let list : (x % 2 ^ 32 + 1) % 2 ^ 32 ∷ [] ≡ count_in ((x + 1) % 2 ^ 64) =
    ap (λ (y : ℕ). y ∷ []) (counts_agree x) in
    let word : x % 2 ^ 32 % 2 ^ 32 ≡ x % 2 ^ 32 = omega arith in
    let reply : reply_value (x % 2 ^ 32) ≡ reply_value x = ap (λ (y : ℕ). 2 * 2 ^ 32 + y) word in
    counter_after-inc (count_in x) operation inc
    ∙ ap (λ (l : List ℕ). (l, reply_value (x % 2 ^ 32))) list
    ∙ ap (λ (r : ℕ). (count_in ((x + 1) % 2 ^ 64), r)) reply

counts_nothing : (operation x : ℕ) → tally.makes_step operation ≡ false
    → kind_next Counter (count_in x) operation ≡ (count_in x, BAD)
unfolding kind_next
counts_nothing operation x other = counter_after-other (count_in x) operation other

pub tally_serves_counter : TallyServesCounter
tally_serves_counter = record { first = refl; step = counts; no_step = counts_nothing }

pub tallies_linearize : TalliesLinearize
tallies_linearize n cap steps run =
    one_words_linearize tally count_in (kind_spec Counter) tally_serves_counter n cap steps run

-- the law of tallies, for the counter as its sequential object has it
pub tallies_linearize_counters : (n cap : ℕ) (steps : List Step)
    → IsRun (one_word_shape n cap tally) steps
    → IsLinearizable (spec_from (0 ∷ []) (λ list op. counter_after list (counter_operation op)))
    (history_of (one_word_shape n cap tally) steps)
unfolding kind_next
tallies_linearize_counters n cap steps run = tallies_linearize n cap steps run

-- an operation that makes a step and is no write is a read
holds_value : (operation x : ℕ) → cell.makes_step operation ≡ true → kind_next Register
    (value_in x) operation ≡ (value_in (cell.leaves operation x), cell.replies operation x)
unfolding kind_next
holds_value operation x known =
    elim (cases_Bool (is_operation_of operation words.write)) [
      | inl write ↦
          register_after-write (value_in x) operation write
          ∙ sym (ap (λ b. (
            value_in (if b then argument_of operation else x),
            if b then reply_done else reply_value x,
          )) write)
      | inr other ↦
          let read : is_operation_of operation words.read ≡ true =
          sym (ap (λ b. b || is_operation_of operation words.read) other) ∙ known in
          register_after-read (value_in x) operation other read
          ∙ sym (ap (λ b. (
            value_in (if b then argument_of operation else x),
            if b then reply_done else reply_value x,
          )) other)
    ]

holds_nothing : (operation x : ℕ) → cell.makes_step operation ≡ false
    → kind_next Register (value_in x) operation ≡ (value_in x, BAD)
unfolding kind_next
holds_nothing operation x unknown =
    elim (cases_Bool (is_operation_of operation words.write)) [
      | inl write ↦
          let never : true ≡ false =
          sym (ap (λ b. b || is_operation_of operation words.read) write) ∙ unknown in absurd cc
      | inr other ↦
          register_after-other (value_in x) operation other
          (sym (ap (λ b. b || is_operation_of operation words.read) other) ∙ unknown)
    ]

pub cell_serves_register : CellServesRegister
cell_serves_register = record { first = refl; step = holds_value; no_step = holds_nothing }

pub cells_linearize : CellsLinearize
cells_linearize n cap steps run =
    one_words_linearize cell value_in (kind_spec Register) cell_serves_register n cap steps run

-- the law of cells, for the register as its sequential object has it
pub cells_linearize_registers : (n cap : ℕ) (steps : List Step)
    → IsRun (one_word_shape n cap cell) steps
    → IsLinearizable (spec_from (0 ∷ []) (λ list op. register_after list (register_operation op)))
    (history_of (one_word_shape n cap cell) steps)
unfolding kind_next
cells_linearize_registers n cap steps run = cells_linearize n cap steps run
