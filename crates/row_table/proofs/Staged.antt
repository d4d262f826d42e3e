-- What is staged at the places of a row after its words were staged.
use Rattle.std.proofs.Common.{◌≡◌, ℕ, zero, suc, ◌+◌, ◌<◌, ◌≤◌, true, ◌==◌, List, [], ◌∷◌, ◌++◌, length, take, get_or, refl, sym, ap, ◌∙◌, arith, inl, inr, eq-eqb}
use Rattle.std.proofs.lemmas.List.{take_more, length-take-le}
use Rattle.std.proofs.lemmas.Bool.{or_left, or_right, and_from, cond-false, cases_eq, ne_eqb}
use Rattle.world_core.specs.Local.{Staged}
use Rattle.world_core.specs.Event.{is_staged, are_staged, staged_at}
use Rattle.row_table.specs.Staging.{staged_from}

-- A place that is staged is still so after more words were staged.
pub kept : (p : ℕ) (words : List ℕ) (staged : List Staged) (q : ℕ) → is_staged staged q ≡ true
    → is_staged (staged_from p words staged) q ≡ true
kept p [] staged q h = h
kept p (x ∷ words) staged q h = kept (p + 1) words (record { place = p; word = x } ∷ staged) q
    (or_right (p == q) (is_staged staged q) h)

-- Each of the places from `p` on is staged after the words were, for as many places as there are
-- words.
pub covered : (p : ℕ) (words : List ℕ) (staged : List Staged) (q : ℕ) → p ≤ q → q < p + length words
    → is_staged (staged_from p words staged) q ≡ true
covered p [] staged q low high = absurd (omega (arith, low, high))
covered p (x ∷ words) staged q low high =
    elim (cases_eq q p) [
      | inl is ↦ kept (p + 1) words (record { place = p; word = x } ∷ staged) q
          (or_left (p == q) (is_staged staged q) (eq-eqb p q (sym is)))
      | inr ne ↦ covered (p + 1) words (record { place = p; word = x } ∷ staged) q
          (omega (arith, low, ne)) (omega (arith, high))
    ]

-- At a place before `p` the words that are staged from `p` on change nothing.
pub below : (p : ℕ) (words : List ℕ) (staged : List Staged) (q : ℕ) → q < p
    → staged_at (staged_from p words staged) q ≡ staged_at staged q
below p [] staged q low = refl
below p (x ∷ words) staged q low =
    below (p + 1) words (record { place = p; word = x } ∷ staged) q (omega (arith, low))
    ∙ cond-false (p == q) x (staged_at staged q) (ne_eqb p q (λ e. absurd (omega (arith, e, low))))

-- The words with one more at their end stage this one last, at the place after theirs.
pub one_more : (p : ℕ) (words : List ℕ) (staged : List Staged) (x : ℕ)
    → staged_from p (words ++ x ∷ []) staged
    ≡ record { place = p + length words; word = x } ∷ staged_from p words staged
one_more p [] staged x =
    ap (λ (q : ℕ). record { place = q; word = x } ∷ staged) (let e : p ≡ p + 0 = omega arith in e)
one_more p (y ∷ words) staged x =
    one_more (p + 1) words (record { place = p; word = y } ∷ staged) x
    ∙ ap (λ (q : ℕ). record { place = q; word = x }
    ∷ staged_from (p + 1) words (record { place = p; word = y } ∷ staged))
    (let e : p + 1 + length words ≡ p + length (y ∷ words) = omega arith in e)

-- All places before `m` are staged where each of them is.
pub all_staged : (staged : List Staged) (m : ℕ) → ((q : ℕ) → q < m → is_staged staged q ≡ true)
    → are_staged staged m ≡ true
all_staged staged zero h = refl
all_staged staged (suc m) h = and_from (is_staged staged m) (are_staged staged m)
    (h m (omega arith)) (all_staged staged m (λ q low. h q (omega (arith, low))))

-- The first words, with the next one, stage this one last, at the place of its number after `p`.
pub next_word : (p : ℕ) (words : List ℕ) (staged : List Staged) (k : ℕ) → k < length words
    → staged_from p (take (k + 1) words) staged
    ≡ record { place = p + k; word = get_or words k 0 } ∷ staged_from p (take k words) staged
next_word p words staged k low =
    ap (λ (ws : List ℕ). staged_from p ws staged) (take_more words k 0 low)
    ∙ one_more p (take k words) staged (get_or words k 0)
    ∙ ap
    (λ (q : ℕ). record { place = q; word = get_or words k 0 } ∷ staged_from p (take k words) staged)
    (ap (λ (m : ℕ). p + m) (length-take-le k words (omega (arith, low))))
