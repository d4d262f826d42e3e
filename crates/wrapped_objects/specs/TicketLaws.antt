-- A dispenser of tickets serves its sequential object, so that every run of it is linearizable.
use Rattle.std.proofs.Common.{◌≡◌, ℕ, ◌+◌, ◌%◌, ◌^◌, ◌≤◌, true, false, ◌==◌, List, [], ◌∷◌, length, refl, ap, arith, inl, inr}
use Rattle.std.proofs.lemmas.Bool.{cases_Bool, cond-true, cond-false}
use Rattle.book_base.specs.declared.TheConstants.{BAD}
use Rattle.book_base.specs.SeqSpec.{spec_from}
use Rattle.seq_objects.specs.Items.{first_or_zero}
use Rattle.world_core.specs.World.{Step, IsRun}
use Rattle.world_core.specs.History.{IsLinearizable, history_of}
use Rattle.world_objects.specs.OneWord.{Serves, one_word_shape}
use Rattle.world_objects.proofs.OneWords.{one_words_linearize}
use Rattle.wrapped_objects.specs.Tickets.{take, ticket, after_call, dispenser, taken_by}

-- A call that takes a ticket adds 1 to the number in the list, modulo 2 ^ 64, and gets the ticket.
after_call-take : (first : ℕ) (list : List ℕ) (op : ℕ) → (op == take) ≡ true
    → after_call first list op
    ≡ ((first_or_zero list + 1) % 2 ^ 64 ∷ [], ticket first (first_or_zero list))
after_call-take first list op takes = cond-true (op == take) _ _ takes

-- A call with an operation other than taking a ticket leaves the list as it is, and gets `bad`.
pub after_call-unknown : (first : ℕ) (list : List ℕ) (op : ℕ) → (op == take) ≡ false
    → after_call first list op ≡ (list, BAD)
after_call-unknown first list op other = cond-false (op == take) _ _ other

-- No call makes the list longer by more than one item.
pub length-after_call : (first : ℕ) (list : List ℕ) (op : ℕ)
    → length (after_call first list op).0 ≤ length list + 1
length-after_call first list op =
    elim (cases_Bool (op == take)) [
      | inl takes ↦ let one =
          ap (λ (r : List ℕ × ℕ). length r.0) (after_call-take first list op takes) in
          omega (arith, one)
      | inr other ↦ let same =
          ap (λ (r : List ℕ × ℕ). length r.0) (after_call-unknown first list op other) in
          omega (arith, same)
    ]

serves : (first : ℕ) → Serves (dispenser first) taken_by (spec_from (0 ∷ []) (after_call first))
serves first =
    record {
      first = refl;
      step = λ op taken takes. after_call-take first (taken_by taken) op takes;
      no_step = λ op taken other. after_call-unknown first (taken_by taken) op other;
    }

-- The object history of every run of a dispenser is linearizable, by the law of objects of one
-- word.
pub dispensers_linearize : (first n cap : ℕ) (steps : List Step)
    → IsRun (one_word_shape n cap (dispenser first)) steps
    → IsLinearizable (spec_from (0 ∷ []) (after_call first))
    (history_of (one_word_shape n cap (dispenser first)) steps)
dispensers_linearize first n cap steps run =
    one_words_linearize (dispenser first) taken_by (spec_from (0 ∷ []) (after_call first))
    (serves first) n cap steps run
