-- The passes of both callers of a box, taken one by one and given back.
use Rattle.std.proofs.Common.{◌≡◌, ℕ, List, [], ◌∷◌, ◌++◌, length, map, get_or, refl, sym, ap, ◌∙◌, subst, arith}
use Rattle.std.specs.List.{All, range_with_len}
use Rattle.std.proofs.lemmas.List.{length-append, length-map}
use Rattle.std.proofs.lemmas.List.Elements.{All-nil, All-cons}
use Rattle.shared_words.specs.declared.entry.Entry.{Entry}
use Rattle.test_objects.specs.declared.scratch.Scratch.{Scratch}
use Rattle.test_objects.specs.declared.log_pass.LogPass.{LogPass}
use Rattle.test_objects.specs.declared.log_box.LogBox.{LogBox}
use Rattle.test_objects.specs.Passes.{caller_of_pass, callers_in, IsPassOf, ArePassesOf, IsFresh}
use Rattle.whole_runs.specs.Seated.{IsFor, IsUnused}

-- a list of two, taken from the end
two_taken : (xs ys zs : List LogPass) (p q : LogPass) → length xs ≡ 2
    → xs ≡ ys ++ q ∷ [] → ys ≡ zs ++ p ∷ [] → (zs ≡ []) × (xs ≡ p ∷ q ∷ [])
two_taken xs ys [] p q two last first = (refl, last ∙ ap (λ (l : List LogPass). l ++ q ∷ []) first)
two_taken xs ys (z ∷ zs) p q two last first =
    absurd (omega (
      arith,
      two,
      ap length last,
      ap length first,
      length-append ys (q ∷ []),
      length-append zs (p ∷ []),
    ))

module _ {M : Type 0} (reply_to : M → List Entry → ℕ) (has_seen : M → List Entry → Scratch → Type 0)
    (b : LogBox M) where
  -- the passes are those of callers 0 and 1
  pub both_taken : (xs ys zs : List LogPass) (p q : LogPass) → ArePassesOf reply_to has_seen b xs
      → callers_in b ≡ 2 → All (IsFresh 4) xs → xs ≡ ys ++ q ∷ [] → ys ≡ zs ++ p ∷ []
      → (zs ≡ []) × (IsFor reply_to has_seen b 0 p × IsUnused p) × IsFor reply_to has_seen b 1 q
      × IsUnused q
  both_taken xs ys zs p q h two fresh last first =
      let callers : map caller_of_pass xs ≡ 0 ∷ 1 ∷ [] = h.callers ∙ ap (range_with_len 0) two in
      let long : length xs ≡ 2 = omega (arith, length-map xs caller_of_pass, ap length callers) in
      let is = two_taken xs ys zs p q long last first in
      let own : All (IsPassOf reply_to has_seen b) (p ∷ q ∷ []) =
      subst (λ (l : List LogPass). All (IsPassOf reply_to has_seen b) l) is.1 h.each in
      let new : All (IsFresh 4) (p ∷ q ∷ []) =
      subst (λ (l : List LogPass). All (IsFresh 4) l) is.1 fresh in
      let whose : caller_of_pass p ∷ caller_of_pass q ∷ [] ≡ 0 ∷ 1 ∷ [] =
      subst (λ (l : List LogPass). map caller_of_pass l ≡ 0 ∷ 1 ∷ []) is.1 callers in
      let a = new 0 p (omega arith) in
      let z = new 1 p (omega arith) in (
        is.0,
        (
          record { own = own 0 p (omega arith); caller = ap (λ (l : List ℕ). get_or l 0 0) whose },
          record { made = a.made; some = omega (arith, a.cap) },
        ),
        record { own = own 1 p (omega arith); caller = ap (λ (l : List ℕ). get_or l 1 0) whose },
        record { made = z.made; some = omega (arith, z.cap) },
      )

  -- the passes given back in order are the passes of the box
  pub both_back : (p q : LogPass) → callers_in b ≡ 2 → IsFor reply_to has_seen b 0 p
      → IsFor reply_to has_seen b 1 q → ArePassesOf reply_to has_seen b (p ∷ q ∷ [])
  both_back p q two a z =
      record {
        callers = (λ i. a.caller i ∷ z.caller i ∷ []) ∙ ap (range_with_len 0) (sym two);
        each = All-cons (IsPassOf reply_to has_seen b) p (q ∷ []) a.own (All-cons
            (IsPassOf reply_to has_seen b) q [] z.own (All-nil (IsPassOf reply_to has_seen b)));
      }
