-- A pass after one more call.
use Rattle.std.proofs.Common.{◌≡◌, ℕ, ◌≤◌, List, [], ◌∷◌, ◌++◌, refl, sym, ap, ◌∙◌, subst, arith}
use Rattle.shared_words.specs.declared.shared_words.SharedWords.{SharedWords}
use Rattle.shared_words.specs.declared.word_seat.WordSeat.{WordSeat}
use Rattle.shared_words.specs.declared.words_pass.WordsPass.{WordsPass}
use Rattle.shared_words.specs.Deeds.{Deed, AreCalls}
use Rattle.shared_words.specs.Passes.{caller_of_seat, deeds_of, seat_in, caller_of_pass, pairs_in, cap_of_pass, capacity_of_pass, IsSeatOf, IsPassOf}

-- calls with one more call at their end are calls made by the deeds of both
pub AreCalls-push : (call : ℕ → ℕ → List Deed → List Deed → Type 0) (pairs : List (ℕ × ℕ))
    (op reply : ℕ) (before between after : List Deed)
    → AreCalls call pairs before between → call op reply between after
    → AreCalls call (pairs ++ (op, reply) ∷ []) before after
AreCalls-push call [] op reply before between after so_far one =
    (after, subst (λ (d : List Deed). call op reply d after) (sym so_far) one, refl)
AreCalls-push call (pair ∷ pairs) op reply before between after so_far one =
    (so_far.0, so_far.1, AreCalls-push call pairs op reply so_far.0 between after so_far.2 one)

-- the pass after a call whose deeds its seat made, and which was noted
pub called : {U : Type 0} (may : ℕ → Deed → Type 0)
    (call : ℕ → ℕ → ℕ → List Deed → List Deed → Type 0) (w : SharedWords U) (p new : WordsPass)
    (s : WordSeat) (op reply : ℕ)
    → IsPassOf may call w p → IsSeatOf may w s → caller_of_seat s ≡ caller_of_pass p
    → call (caller_of_pass p) op reply (deeds_of p.seat) (deeds_of s)
    → pairs_in new ≡ pairs_in p ++ (op, reply) ∷ [] → seat_in new ≡ s
    → cap_of_pass new ≡ cap_of_pass p → capacity_of_pass p ≤ capacity_of_pass new
    → IsPassOf may call w new
called may call w p new s op reply own seat who one noted same cap more =
    let room = own.room in
    let who_is : caller_of_pass p ≡ caller_of_pass new = sym (ap caller_of_seat same ∙ who) in
    record {
      seat = subst (λ (t : WordSeat). IsSeatOf may w t) (sym same) seat;
      cap = cap ∙ own.cap;
      room = omega arith;
      calls =
          subst (λ (y : ℕ × List (ℕ × ℕ) × List Deed). AreCalls (call y.0) y.1 [] y.2)
          (λ i. (who_is i, sym noted i, deeds_of (sym same i)))
          (AreCalls-push (call (caller_of_pass p)) (pairs_in p) op reply [] (deeds_of p.seat)
          (deeds_of s) own.calls one);
    }
