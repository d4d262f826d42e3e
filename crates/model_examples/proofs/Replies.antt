-- Replies of the lock in orders of a book.
use Rattle.std.proofs.Common.{◌≡◌, ℕ, zero, suc, ◌≤◌, List, [], ◌∷◌, map, slice_get, Some, unwrap_or, refl, sym, ap, subst, ◌∙◌, arith}
use Rattle.std.proofs.lemmas.Option.{same_Some, none-some}
use Rattle.book_base.specs.declared.TheConstants.{BAD}
use Rattle.book_base.specs.declared.call.Call.{Call}
use Rattle.book_base.specs.declared.call.Place.{Place}
use Rattle.book_base.specs.declared.call.Record.{Record}
use Rattle.book_base.specs.SeqSpec.{SeqSpec}
use Rattle.book_base.specs.Book.{Page, IsCall, operation_of}
use Rattle.book_base.specs.Sequential.{IsRunFrom}
use Rattle.book_base.specs.Order.{HasLegalOrder, StandsAt, call_at, step_at}
use Rattle.told_models.specs.Agreement.{AgreesBy, Agrees}
use Rattle.told_models.specs.Closed.{HaveWords}
use Rattle.model_examples.specs.Locks.{refused, other_after, other_lock, two_calls, to}

small_reply : (list : List ℕ) (op : ℕ) → (other_after list op).1 ≤ 7
small_reply [] op = omega arith
small_reply (zero ∷ []) zero = omega arith
small_reply (zero ∷ []) (suc zero) = omega arith
small_reply (zero ∷ []) (suc (suc op)) = omega arith
small_reply (suc zero ∷ []) zero = omega arith
small_reply (suc zero ∷ []) (suc zero) = omega arith
small_reply (suc zero ∷ []) (suc (suc op)) = omega arith
small_reply (suc (suc n) ∷ []) op = omega arith
small_reply (zero ∷ m ∷ list) op = omega arith
small_reply (suc zero ∷ m ∷ list) op = omega arith
small_reply (suc (suc n) ∷ m ∷ list) op = omega arith

-- no reply in a run of the other lock is greater than 7
small_replies : (book : List Page) (list : List ℕ) (order : List Place)
    → IsRunFrom other_after list (map (step_at book) order) → (k : ℕ) (place : Place)
    → slice_get order k ≡ Some place → place.reply ≤ 7
small_replies book list [] run k place at = absurd (none-some place at)
small_replies book list (first ∷ order) run zero place at =
    let same = ap (λ (p : Place). p.reply) (same_Some first place at) in
    omega (arith, small_reply list (step_at book first).0, run.0, same)
small_replies book list (first ∷ order) run (suc k) place at =
    small_replies book (other_after list (step_at book first).0).0 order run.1 k place at

-- so that the book in which it doesn't know an operation isn't legal for it
pub none_is_bad : HasLegalOrder other_lock (two_calls 1 1 1 BAD) → ⊥
none_is_bad has =
    let second : Record = record { reply = BAD; view = 2 ∷ [] } in
    let at = has.1.answered (record { caller = 0; number = 1 }) second refl in
    let small = small_replies (two_calls 1 1 1 BAD) (0 ∷ []) has.0 has.1.run at.0
    (record { caller = 0; number = 1; reply = BAD }) at.1 in
    absurd (omega (arith, small))

-- from the held state of an object that agrees with both steps each reply to operation 1 is 0
held_replies : (list_of : ℕ → List ℕ) (spec : SeqSpec) → AgreesBy list_of refused spec
    → (steps : List (ℕ × ℕ)) → HaveWords (λ op. op ≡ 1) steps
    → IsRunFrom spec.next (list_of 1) steps → (k : ℕ) (step : ℕ × ℕ)
    → slice_get steps k ≡ Some step → step.1 ≡ 0
held_replies list_of spec agrees [] ones run k step at = absurd (none-some step at)
held_replies list_of spec agrees (first ∷ steps) ones run zero step at =
    let made = ap (λ (op : ℕ). spec.next (list_of 1) op) ones.0
    ∙ agrees.steps 1 1 (to 1 0) refl in
    sym (ap (λ (s : ℕ × ℕ). s.1) (same_Some first step at))
    ∙ (sym run.0 ∙ ap (λ (p : List ℕ × ℕ). p.1) made)
held_replies list_of spec agrees (first ∷ steps) ones run (suc k) step at =
    let made = ap (λ (op : ℕ). spec.next (list_of 1) op) ones.0
    ∙ agrees.steps 1 1 (to 1 0) refl in
    held_replies list_of spec agrees steps ones.1
    (subst (λ (list : List ℕ). IsRunFrom spec.next list steps)
    (ap (λ (p : List ℕ × ℕ). p.0) made) run.1) k step at

-- from the free state each reply after the first one is 0
later_replies : (list_of : ℕ → List ℕ) (spec : SeqSpec) → AgreesBy list_of refused spec
    → (steps : List (ℕ × ℕ)) → HaveWords (λ op. op ≡ 1) steps
    → IsRunFrom spec.next (list_of 0) steps → (k : ℕ) (step : ℕ × ℕ)
    → slice_get steps (suc k) ≡ Some step → step.1 ≡ 0
later_replies list_of spec agrees [] ones run k step at = absurd (none-some step at)
later_replies list_of spec agrees (first ∷ steps) ones run k step at =
    let made = ap (λ (op : ℕ). spec.next (list_of 0) op) ones.0
    ∙ agrees.steps 0 1 (to 1 1) refl in
    held_replies list_of spec agrees steps ones.1
    (subst (λ (list : List ℕ). IsRunFrom spec.next list steps)
    (ap (λ (p : List ℕ × ℕ). p.0) made) run.1) k step at

-- each place of an order of the book has operation word 1
book_words : (order : List Place)
    → ((k : ℕ) (call : Call) → StandsAt order k call → IsCall (two_calls 1 1 1 1) call)
    → HaveWords (λ op. op ≡ 1) (map (step_at (two_calls 1 1 1 1)) order)
book_words [] calls = tt
book_words (place ∷ order) calls = (
  word place.caller place.number (calls 0 (call_at place) (place, refl, refl)),
  book_words order (λ k call stands. calls (suc k) call (stands.0, stands.1, stands.2)),
)
  where
    word : (i k : ℕ) → IsCall (two_calls 1 1 1 1) (record { caller = i; number = k })
        → unwrap_or (operation_of (two_calls 1 1 1 1) (record { caller = i; number = k })) 0 ≡ 1
    word zero zero made = refl
    word zero (suc zero) made = refl
    word zero (suc (suc k)) made = absurd (omega (arith, made))
    word (suc i) k made = absurd (omega (arith, made))

-- what stands in an order has its step among those of the order
step_of_place : (book : List Page) (order : List Place) (k : ℕ) (place : Place)
    → slice_get order k ≡ Some place
    → slice_get (map (step_at book) order) k ≡ Some (step_at book place)
step_of_place book [] k place at = absurd (none-some place at)
step_of_place book (first ∷ order) zero place at =
    ap (λ (p : Place). Some (step_at book p)) (same_Some first place at)
step_of_place book (first ∷ order) (suc k) place at = step_of_place book order k place at

-- no lock that agrees with both steps lets the caller acquire it twice
pub not_twice : (spec : SeqSpec) → Agrees refused spec → HasLegalOrder spec (two_calls 1 1 1 1) → ⊥
not_twice spec (list_of, agrees) (order, legal) =
    let book = two_calls 1 1 1 1 in
    let a = legal.answered (record { caller = 0; number = 0 })
    (record { reply = 1; view = 1 ∷ [] }) refl in
    let b = legal.answered (record { caller = 0; number = 1 })
    (record { reply = 1; view = 2 ∷ [] }) refl in
    by a.0 b.0 a.1 b.1
  where
    first : Place
    first = record { caller = 0; number = 0; reply = 1 }

    second : Place
    second = record { caller = 0; number = 1; reply = 1 }

    late : (k : ℕ) (place : Place) → place.reply ≡ 1 → slice_get order (suc k) ≡ Some place → ⊥
    late k place one at =
        let none = later_replies list_of spec agrees (map (step_at (two_calls 1 1 1 1)) order)
        (book_words order legal.calls) (subst (λ (list : List ℕ).
        IsRunFrom spec.next list (map (step_at (two_calls 1 1 1 1)) order)) agrees.init legal.run) k
        (step_at (two_calls 1 1 1 1) place)
        (step_of_place (two_calls 1 1 1 1) order (suc k) place at) in
        let zero_is : place.reply ≡ 0 = none in
        absurd (omega (arith, zero_is, one))

    by : (j k : ℕ) → slice_get order j ≡ Some first → slice_get order k ≡ Some second → ⊥
    by zero zero at_first at_second =
        let same = ap (λ (p : Place). p.number)
        (same_Some first second (sym at_first ∙ at_second)) in
        absurd (omega (arith, same))
    by (suc j) k at_first at_second = late j first refl at_first
    by zero (suc k) at_first at_second = late k second refl at_second
