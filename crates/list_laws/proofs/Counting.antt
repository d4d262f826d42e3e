-- How many numbers of a range pass a test, and how the sums of two lists compare.
use Rattle.std.proofs.Common.{◌≡◌, ℕ, zero, suc, ◌+◌, ◌-◌, ◌<◌, ◌≤◌, Bool, true, false, ◌&&◌, nat_eq, cond, List, [], ◌∷◌, length, slice_index, sum, count_by, bytes_eq, sym, ap, ◌∙◌, arith, inl, inr}
use Rattle.std.specs.List.{range_with_len}
use Rattle.std.proofs.lemmas.Bool.{cases_Bool, cases_lt, eqb-false}
use Rattle.std.proofs.lemmas.List.Sums.{sum_by-cons}

module _ (f : ℕ → Bool) where
  -- the count of a range, by its first number
  count_first : (s L : ℕ) → count_by f (range_with_len s (suc L))
      ≡ cond (f s) 1 0 + count_by f (range_with_len (s + 1) L)
  count_first s L = sum_by-cons (λ p. cond (f p) 1 0) s (range_with_len (s + 1) L)

  count_yes : (s L : ℕ) → f s ≡ true
      → count_by f (range_with_len s (suc L)) ≡ 1 + count_by f (range_with_len (s + 1) L)
  count_yes s L passes =
      count_first s L ∙ ap (λ (b : Bool). cond b 1 0 + count_by f (range_with_len (s + 1) L)) passes

  count_no : (s L : ℕ) → f s ≡ false
      → count_by f (range_with_len s (suc L)) ≡ 0 + count_by f (range_with_len (s + 1) L)
  count_no s L fails =
      count_first s L ∙ ap (λ (b : Bool). cond b 1 0 + count_by f (range_with_len (s + 1) L)) fails

  -- where only numbers below e pass, there are at most e less the first
  pub count-below : (e s L : ℕ) → ((p : ℕ) → s ≤ p → p < s + L → f p ≡ true → p < e)
      → count_by f (range_with_len s L) ≤ e - s
  count-below e s zero below = omega arith
  count-below e s (suc L) below =
      let rest : count_by f (range_with_len (s + 1) L) ≤ e - (s + 1) =
      count-below e (s + 1) L (λ p a b h. below p (omega arith) (omega arith) h) in
      elim (cases_Bool (f s)) [
        | inl passes ↦ let here : s < e = below s (omega arith) (omega arith) passes in
            omega (arith, count_yes s L passes, rest, here)
        | inr fails ↦ omega (arith, count_no s L fails, rest)
      ]

  -- where any two numbers that pass are closer than m, at most m pass
  pub count-close : (m s L : ℕ)
      → ((p q : ℕ) → p < s + L → q < s + L → f p ≡ true → f q ≡ true → q < p + m)
      → count_by f (range_with_len s L) ≤ m
  count-close m s zero close = omega arith
  count-close m s (suc L) close =
      elim (cases_Bool (f s)) [
        | inl passes ↦ let all : count_by f (range_with_len s (suc L)) ≤ (s + m) - s =
            count-below (s + m) s (suc L) (λ p a b h. close s p (omega arith) b passes h) in
            omega (arith, all)
        | inr fails ↦
            let rest : count_by f (range_with_len (s + 1) L) ≤ m =
            count-close m (s + 1) L (λ p q a b h k. close p q (omega arith) (omega arith) h k) in
            omega (arith, count_no s L fails, rest)
      ]

-- the sum of a list is greater than another's by at most its length, where each number is greater
-- by at most one
sum_within : (a b : List ℕ) → length a ≡ length b
    → ((t : ℕ) → t < length a → slice_index b t ≤ slice_index a t + 1) → sum b ≤ sum a + length a
sum_within [] [] long near = omega arith
sum_within [] (y ∷ ys) long near = absurd (omega (arith, long))
sum_within (x ∷ xs) [] long near = absurd (omega (arith, long))
sum_within (x ∷ xs) (y ∷ ys) long near =
    let rest : sum ys ≤ sum xs + length xs =
    sum_within xs ys (omega arith) (λ t below. near (suc t) (omega arith)) in
    let here : y ≤ x + 1 = near 0 (omega arith) in
    omega (arith, sum_by-cons (λ (n : ℕ). n) x xs, sum_by-cons (λ (n : ℕ). n) y ys, rest, here)

-- the sum of a list is greater than another's by less than its length, where each number is greater
-- by at most one and one is the same
pub sum-within_but : (a b : List ℕ) (me : ℕ) → length a ≡ length b
    → ((t : ℕ) → t < length a → slice_index b t ≤ slice_index a t + 1)
    → me < length a → slice_index b me ≡ slice_index a me → sum b + 1 ≤ sum a + length a
sum-within_but [] b me long near low same = absurd (omega arith)
sum-within_but (x ∷ xs) [] me long near low same = absurd (omega (arith, long))
sum-within_but (x ∷ xs) (y ∷ ys) zero long near low same =
    let rest : sum ys ≤ sum xs + length xs =
    sum_within xs ys (omega arith) (λ t below. near (suc t) (omega arith)) in
    omega (arith, sum_by-cons (λ (n : ℕ). n) x xs, sum_by-cons (λ (n : ℕ). n) y ys, rest, same)
sum-within_but (x ∷ xs) (y ∷ ys) (suc me) long near low same =
    let rest : sum ys + 1 ≤ sum xs + length xs = sum-within_but xs ys me (omega arith)
    (λ t below. near (suc t) (omega arith)) (omega arith) same in
    let here : y ≤ x + 1 = near 0 (omega arith) in
    omega (arith, sum_by-cons (λ (n : ℕ). n) x xs, sum_by-cons (λ (n : ℕ). n) y ys, rest, here)

-- the sum of a list is at least another's where no number is less
sum_rises : (a b : List ℕ) → length a ≡ length b
    → ((t : ℕ) → t < length a → slice_index a t ≤ slice_index b t) → sum a ≤ sum b
sum_rises [] [] long rises = omega arith
sum_rises [] (y ∷ ys) long rises = absurd (omega (arith, long))
sum_rises (x ∷ xs) [] long rises = absurd (omega (arith, long))
sum_rises (x ∷ xs) (y ∷ ys) long rises =
    let rest : sum xs ≤ sum ys =
    sum_rises xs ys (omega arith) (λ t below. rises (suc t) (omega arith)) in
    let here : x ≤ y = rises 0 (omega arith) in
    omega (arith, sum_by-cons (λ (n : ℕ). n) x xs, sum_by-cons (λ (n : ℕ). n) y ys, rest, here)

-- the sum of a list is greater than another's where no number is less and the lists differ
pub sum-rises_apart : (a b : List ℕ) → length a ≡ length b
    → ((t : ℕ) → t < length a → slice_index a t ≤ slice_index b t) → bytes_eq a b ≡ false
    → sum a + 1 ≤ sum b
sum-rises_apart [] [] long rises apart = absurd cc
sum-rises_apart [] (y ∷ ys) long rises apart = absurd (omega (arith, long))
sum-rises_apart (x ∷ xs) [] long rises apart = absurd (omega (arith, long))
sum-rises_apart (x ∷ xs) (y ∷ ys) long rises apart =
    let here : x ≤ y = rises 0 (omega arith) in
    elim (cases_Bool (nat_eq x y)) [
      | inl same ↦
          let others : bytes_eq xs ys ≡ false =
          sym (ap (λ (b : Bool). b && bytes_eq xs ys) same) ∙ apart in
          let rest : sum xs + 1 ≤ sum ys =
          sum-rises_apart xs ys (omega arith) (λ t below. rises (suc t) (omega arith)) others in
          omega
          (arith, sum_by-cons (λ (n : ℕ). n) x xs, sum_by-cons (λ (n : ℕ). n) y ys, rest, here)
      | inr differs ↦
          let rest : sum xs ≤ sum ys =
          sum_rises xs ys (omega arith) (λ t below. rises (suc t) (omega arith)) in
          let more : x < y = elim (cases_lt x y) [
            | inl less ↦ less
            | inr not_less ↦ absurd (eqb-false x y differs (omega arith))
          ] in
          omega
          (arith, sum_by-cons (λ (n : ℕ). n) x xs, sum_by-cons (λ (n : ℕ). n) y ys, rest, more)
    ]
