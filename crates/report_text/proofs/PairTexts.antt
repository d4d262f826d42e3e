-- Pairs of a cut before other words.
use Rattle.std.proofs.Common.{◌≡◌, ℕ, zero, suc, ◌+◌, ◌<◌, ◌≤◌, ◌^◌, List, [], ◌∷◌, ◌++◌, length, decimal, refl, sym, ap, subst, ◌∙◌, arith, inl, inr}
use Rattle.std.specs.Prelude.{is_some}
use Rattle.std.proofs.lemmas.Option.{some_pair_parts}
use Rattle.text_fields.specs.Lines.{cut_at}
use Rattle.text_fields.specs.Counts.{AreNumbers, pair_word, pair_words, HasBadPair, NoPairFirst}
use Rattle.text_fields.proofs.NumberTexts.{same_first, same_number, pair_parts}

-- a pair is no word that other words may begin with
no_pair_word : (words all : List (List ℕ)) (b c : ℕ) → b < 2 ^ 64 → all ≡ pair_word b c ∷ words
    → NoPairFirst all → ⊥
no_pair_word words all b c small e plain =
    let colon = ap is_some (pair_parts b c small) in
    let none = subst NoPairFirst e plain in
    absurd (cc (colon, none))

-- a cut of later callers doesn't begin with a pair of an earlier one
pairs_above : (b b' : ℕ) (cut : List ℕ) (rest : List (List ℕ)) (c : ℕ) (words : List (List ℕ))
    → b < b' → b' + length cut ≤ 2 ^ 64 → NoPairFirst rest
    → pair_words b' cut ++ rest ≡ pair_word b c ∷ words → ⊥
pairs_above b b' [] rest c words lt few plain e = no_pair_word words rest b c (omega arith) e plain
pairs_above b b' (zero ∷ cut) rest c words lt few plain e =
    pairs_above b (b' + 1) cut rest c words (omega arith) (omega arith) plain e
pairs_above b b' (suc d ∷ cut) rest c words lt few plain e =
    let word = (same_first _ _ _ _ e).0 in
    let parts = some_pair_parts (decimal b') (decimal b) (decimal (suc d)) (decimal c) (sym
    (pair_parts b' (suc d) (omega arith)) ∙ ap (cut_at 58) word ∙ pair_parts b c (omega arith)) in
    let same : b' ≡ b = same_number b' b (omega arith) (omega arith) parts.0 in
    omega arith

-- Two cuts are equal, and so are the words after them.
pub record AreSame (xs ys : List ℕ) (s t : List (List ℕ)) : Type 0 where
  pub cuts : xs ≡ ys
  pub rests : s ≡ t

-- pairs before words that begin with no pair determine the cut and those words
pub pairs_apart : (b : ℕ) (xs ys : List ℕ) (s t : List (List ℕ)) → length xs ≡ length ys
    → b + length xs ≤ 2 ^ 64 → AreNumbers xs → AreNumbers ys → NoPairFirst s → NoPairFirst t
    → pair_words b xs ++ s ≡ pair_words b ys ++ t → AreSame xs ys s t
pairs_apart b [] [] s t same few h k p q e = record { cuts = refl; rests = e }
pairs_apart b [] (y ∷ ys) s t same few h k p q e = absurd (omega arith)
pairs_apart b (x ∷ xs) [] s t same few h k p q e = absurd (omega arith)
pairs_apart b (zero ∷ xs) (zero ∷ ys) s t same few h k p q e =
    let more = pairs_apart (b + 1) xs ys s t (omega arith) (omega arith) h.1 k.1 p q e in
    record { cuts = ap (λ (zs : List ℕ). 0 ∷ zs) more.cuts; rests = more.rests }
pairs_apart b (zero ∷ xs) (suc y ∷ ys) s t same few h k p q e = absurd (pairs_above b (b + 1) xs s
    (suc y) (pair_words (b + 1) ys ++ t) (omega arith) (omega arith) p e)
pairs_apart b (suc x ∷ xs) (zero ∷ ys) s t same few h k p q e = absurd (pairs_above b (b + 1) ys t
    (suc x) (pair_words (b + 1) xs ++ s) (omega arith) (omega arith) q (sym e))
pairs_apart b (suc x ∷ xs) (suc y ∷ ys) s t same few h k p q e =
    let line = same_first _ _ _ _ e in
    let parts = some_pair_parts (decimal b) (decimal b) (decimal (suc x)) (decimal (suc y))
    (sym (pair_parts b (suc x) (omega arith)) ∙ ap (cut_at 58) line.0
    ∙ pair_parts b (suc y) (omega arith)) in
    let first : suc x ≡ suc y = same_number (suc x) (suc y) h.0 k.0 parts.1 in
    let more = pairs_apart (b + 1) xs ys s t (omega arith) (omega arith) h.1 k.1 p q line.1 in
    record {
      cuts = ap (λ (z : ℕ). z ∷ xs) first ∙ ap (λ (zs : List ℕ). suc y ∷ zs) more.cuts;
      rests = more.rests;
    }

-- pairs before words that begin with no pair have no bad one
pub pairs_good : (n : ℕ) (cut : List ℕ) (rest : List (List ℕ)) (b least : ℕ) → least ≤ b
    → b + length cut ≤ n → n ≤ 2 ^ 64 → AreNumbers cut → NoPairFirst rest
    → HasBadPair n least (pair_words b cut ++ rest) → ⊥
pairs_good n [] [] b least le few small numbers plain h = h
pairs_good n [] (word ∷ rest) b least le few small numbers plain h = absurd (cc (plain, h.0))
pairs_good n (zero ∷ cut) rest b least le few small numbers plain h =
    pairs_good n cut rest (b + 1) least (omega arith) (omega arith) small numbers.1 plain h
pairs_good n (suc c ∷ cut) rest b least le few small numbers plain (colon, inl none) = none b
    (suc c) (record { caller = omega arith; some = omega arith; small = numbers.0; text = refl })
pairs_good n (suc c ∷ cut) rest b least le few small numbers plain (colon, inr low) =
    let parts = some_pair_parts (decimal b) (decimal low.0) (decimal (suc c)) (decimal low.1)
    (sym (pair_parts b (suc c) (omega arith)) ∙ ap (cut_at 58) low.2.text
    ∙ pair_parts low.0 low.1 (omega (arith, low.2.caller))) in
    let same : b ≡ low.0 =
    same_number b low.0 (omega arith) (omega (arith, low.2.caller)) parts.0 in
    elim low.3 [
      | inl lt ↦ omega arith
      | inr bad ↦
          pairs_good n cut rest (b + 1) (b + 1) (omega arith) (omega arith) small numbers.1 plain
          (subst (λ (j : ℕ). HasBadPair n (j + 1) (pair_words (b + 1) cut ++ rest)) (sym same) bad)
    ]
