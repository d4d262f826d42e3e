-- Rising numbers, and how many of them are below a bound.
use Rattle.std.proofs.Common.{◌≡◌, ℕ, zero, suc, ◌+◌, ◌<◌, ◌≤◌, ◌⊎◌, ◌∙◌, ltb, List, [], ◌∷◌, length, get_or, refl, sym, inl, inr, arith}
use Rattle.std.proofs.lemmas.Bool.{ltb-true, lt-ltb, le-ltb, cases_lt, cases_eq, cond-true, cond-false}
use Rattle.std.proofs.lemmas.List.Sums.{prefix_len_passes, prefix_len-le-length}
use Rattle.smaller_book.specs.Part.{AreRising, count_below}

rising-tail : (x : ℕ) (xs : List ℕ) → AreRising (x ∷ xs) → AreRising xs
rising-tail x xs rising j k less inside = rising (suc j) (suc k) (omega arith) (omega arith)

count_below-cons : (x : ℕ) (xs : List ℕ) (bound : ℕ) → x < bound
    → count_below (x ∷ xs) bound ≡ 1 + count_below xs bound
count_below-cons x xs bound less =
    cond-true (ltb x bound) (1 + count_below xs bound) 0 (lt-ltb x bound less)

-- In a rising list, each place whose number is below a bound is below the count of the numbers
-- below this bound.
pub counted_from_below : (xs : List ℕ) (bound k : ℕ) → AreRising xs → k < length xs
    → get_or xs k 0 < bound → k < count_below xs bound
counted_from_below [] bound k rising inside less = absurd (omega arith)
counted_from_below (x ∷ xs) bound zero rising inside less =
    omega (arith, count_below-cons x xs bound less)
counted_from_below (x ∷ xs) bound (suc k) rising inside less =
    let first : x < get_or xs k 0 = rising 0 (suc k) (omega arith) inside in
    let later : k < count_below xs bound =
    counted_from_below xs bound k (rising-tail x xs rising) (omega arith) less in
    omega (arith, count_below-cons x xs bound (omega arith))

-- Each place below the count of the numbers below a bound has a number below this bound.
pub below_from_counted : (xs : List ℕ) (bound k : ℕ) → k < count_below xs bound
    → get_or xs k 0 < bound
below_from_counted xs bound k less = ltb-true (get_or xs k 0) bound
    (prefix_len_passes (λ (number : ℕ). ltb number bound) xs k 0 less)

-- At most as many numbers are counted below a bound as the list has.
pub count_below-within : (xs : List ℕ) (bound : ℕ) → count_below xs bound ≤ length xs
count_below-within xs bound = prefix_len-le-length (λ (number : ℕ). ltb number bound) xs

-- In a rising list at least as many numbers are below a greater or equal bound.
pub count_below-monotone : (xs : List ℕ) (a b : ℕ) → AreRising xs → a ≤ b
    → count_below xs a ≤ count_below xs b
count_below-monotone xs a b rising few =
    elim (cases_lt (count_below xs b) (count_below xs a)) [
      | inl less ↦
          let below : get_or xs (count_below xs b) 0 < a =
          below_from_counted xs a (count_below xs b) less in
          let inside : count_below xs b < length xs =
          omega (arith, less, count_below-within xs a) in
          absurd
          (omega (arith, counted_from_below xs b (count_below xs b) rising inside (omega arith)))
      | inr most ↦ most
    ]

-- In a rising list exactly k numbers are below the number at place k.
pub count_below-at : (xs : List ℕ) (k : ℕ) → AreRising xs → k < length xs
    → count_below xs (get_or xs k 0) ≡ k
count_below-at xs k rising inside =
    elim (cases_lt k (count_below xs (get_or xs k 0))) [
      | inl counted ↦ absurd (omega (arith, below_from_counted xs (get_or xs k 0) k counted))
      | inr few ↦ at_least xs k rising inside few
    ]
  where
    at_least : (xs : List ℕ) (k : ℕ) → AreRising xs → k < length xs
        → count_below xs (get_or xs k 0) ≤ k → count_below xs (get_or xs k 0) ≡ k
    at_least xs zero rising inside few = omega arith
    at_least xs (suc j) rising inside few =
        omega (
          arith,
          counted_from_below xs (get_or xs (suc j) 0) j rising (omega arith)
              (rising j (suc j) (omega arith) inside),
        )

-- In a rising list exactly k + 1 numbers are at most the number at place k.
pub count_below-past : (xs : List ℕ) (k : ℕ) → AreRising xs → k < length xs
    → count_below xs (get_or xs k 0 + 1) ≡ k + 1
count_below-past xs k rising inside =
    let counted : k < count_below xs (get_or xs k 0 + 1) =
    counted_from_below xs (get_or xs k 0 + 1) k rising inside (omega arith) in
    elim (cases_lt (k + 1) (count_below xs (get_or xs k 0 + 1))) [
      | inl more ↦
          let below : get_or xs (k + 1) 0 < get_or xs k 0 + 1 =
          below_from_counted xs (get_or xs k 0 + 1) (k + 1) more in
          let room : k + 1 < length xs = omega (arith, count_below-within xs (get_or xs k 0 + 1)) in
          absurd (omega (arith, rising k (k + 1) (omega arith) room))
      | inr few ↦ omega arith
    ]

-- Where n isn't in a list, as many numbers are counted below n + 1 as below n.
pub count_below-without : (xs : List ℕ) (n : ℕ) → ((k : ℕ) → k < length xs → get_or xs k 0 ≡ n → ⊥)
    → count_below xs (n + 1) ≡ count_below xs n
count_below-without [] n none = refl
count_below-without (x ∷ xs) n none =
    elim (cases_lt x n) [
      | inl less ↦
          let rest : count_below xs (n + 1) ≡ count_below xs n =
          count_below-without xs n (λ k inside e. none (suc k) (omega arith) e) in
          omega (arith, count_below-cons x xs n less, count_below-cons x xs (n + 1) (omega arith))
      | inr most ↦
          let more : n + 1 ≤ x = elim (cases_eq x n) [
            | inl e ↦
                absurd (none 0 (omega arith) e)
            | inr other ↦ elim (cases_lt n x) [
              | inl lt ↦ omega arith
              | inr le ↦ absurd (other (omega arith))
            ]
          ] in
          cond-false (ltb x (n + 1)) (1 + count_below xs (n + 1)) 0 (le-ltb x (n + 1) more)
          ∙ sym (cond-false (ltb x n) (1 + count_below xs n) 0 (le-ltb x n most))
    ]

-- A number is at some place of a list, or at no place of it.
pub find_number : (xs : List ℕ) (n : ℕ) → ((k : ℕ) × (k < length xs) × (get_or xs k 0 ≡ n))
    ⊎ ((k : ℕ) → k < length xs → get_or xs k 0 ≡ n → ⊥)
find_number [] n = inr (λ k inside e. absurd (omega arith))
find_number (x ∷ xs) n =
    elim (cases_eq x n) [
      | inl e ↦ inl (0, omega arith, e)
      | inr other ↦ elim (find_number xs n) [
        | inl found ↦ inl (suc found.0, omega (arith, found.1), found.2)
        | inr none ↦ inr (λ (k : ℕ) (inside : k < suc (length xs)) (e : get_or (x ∷ xs) k 0 ≡ n).
            not_there x xs n other none k inside e)
      ]
    ]
  where
    not_there : (x : ℕ) (xs : List ℕ) (n : ℕ) → (x ≡ n → ⊥)
        → ((k : ℕ) → k < length xs → get_or xs k 0 ≡ n → ⊥) → (k : ℕ) → k < suc (length xs)
        → get_or (x ∷ xs) k 0 ≡ n → ⊥
    not_there x xs n other none zero inside e = other e
    not_there x xs n other none (suc k) inside e = none k (omega arith) e
