-- The seats that callers are given, from the first caller on, and the new passes of shared words.
use Rattle.std.proofs.Common.{◌≡◌, ℕ, zero, suc, ◌+◌, Bool, true, cond, List, [], ◌∷◌, ◌++◌, length, map, refl, sym, ap, ◌∙◌, subst, arith}
use Rattle.std.specs.List.{All, range_with_len}
use Rattle.std.proofs.lemmas.Bool.{cond-true}
use Rattle.std.proofs.lemmas.List.{map-append}
use Rattle.std.proofs.lemmas.List.Elements.{All-push, All-weaker}
use Rattle.shared_words.specs.declared.shared_words.SharedWords.{SharedWords}
use Rattle.shared_words.specs.declared.words_pass.WordsPass.{WordsPass}
use Rattle.shared_words.specs.Deeds.{Deed, AreCalls}
use Rattle.shared_words.specs.Histories.{Access, deeds_by}
use Rattle.shared_words.specs.Passes.{caller_of_pass, cap_of, IsPassOf, IsNewPass, IsFreshPass}
use Rattle.shared_words.proofs.Histories.{lawful_none}

-- a range that is one longer has one number more at its end
range_more : (a n : ℕ) → range_with_len a (suc n) ≡ range_with_len a n ++ (a + n) ∷ []
range_more a zero = ap (λ (k : ℕ). k ∷ []) (let same : a ≡ a + 0 = omega arith in same)
range_more a (suc n) =
    let up : a + 1 + n ≡ a + suc n = omega arith in
    ap (λ (l : List ℕ). a ∷ l)
    (range_more (a + 1) n ∙ ap (λ (k : ℕ). range_with_len (a + 1) n ++ k ∷ []) up)

-- These are the seats of the first callers, in order, and each is new.
pub record AreDealt {S : Type 0} (caller : S → ℕ) (new : S → Type 0) (count : ℕ)
    (seats : List S) : Type 0 where
  pub callers : map caller seats ≡ range_with_len 0 count
  pub each : All new seats

-- with a new seat of the next caller they still are
pub one_dealt : {S : Type 0} (caller : S → ℕ) (new : S → Type 0) (count : ℕ) (seats all : List S)
    (s : S) (ok : Bool) → AreDealt caller new count seats
    → all ≡ cond ok (seats ++ s ∷ []) seats → ok ≡ true → caller s ≡ count → new s
    → AreDealt caller new (count + 1) all
one_dealt caller new count seats all s ok h is done own fresh =
    let pushed : all ≡ seats ++ s ∷ [] = is ∙ cond-true ok (seats ++ s ∷ []) seats done in
    let up : suc count ≡ count + 1 = omega arith in
    let last : count ≡ 0 + count = omega arith in
    record {
      callers =
          ap (λ (ss : List _). map caller ss) pushed
          ∙ map-append caller seats (s ∷ [])
          ∙ (λ i. h.callers i ++ (own ∙ last) i ∷ [])
          ∙ sym (range_more 0 count)
          ∙ ap (range_with_len 0) up;
      each = subst (λ (ss : List _). All new ss) (sym pushed) (All-push new seats s h.each fresh);
    }

module _ {U : Type 0} where
  -- new passes are passes of any kind of call
  pub new_are_own : (may : ℕ → Deed → Type 0) (call : ℕ → ℕ → ℕ → List Deed → List Deed → Type 0)
      (w : SharedWords U) (passes : List WordsPass) → All (IsNewPass w) passes
      → All (IsPassOf may call w) passes
  new_are_own may call w passes new =
      All-weaker (IsNewPass w) (IsPassOf may call w)
      (λ p n. record {
        seat = record { table = n.table; caller = n.caller; lawful = lawful_none may _ n.history };
        cap = n.cap;
        room = n.room;
        calls = subst (λ (y : List (ℕ × ℕ) × List Access). AreCalls (call (caller_of_pass p))
            y.0 [] (deeds_by (caller_of_pass p) y.1)) (λ i. (sym n.pairs i, sym n.history i)) refl;
      })
      passes new

  pub new_are_fresh : (w : SharedWords U) (cap : ℕ) (passes : List WordsPass) → cap_of w ≡ cap
      → All (IsNewPass w) passes → All (IsFreshPass cap) passes
  new_are_fresh w cap passes same new =
      All-weaker (IsNewPass w) (IsFreshPass cap) (λ p n. record {
        made = ap (λ (l : List (ℕ × ℕ)). length l) n.pairs;
        cap = n.cap ∙ same;
        pairs = n.pairs;
      }) passes new
