-- The greatest count that some cuts have for a caller.
use Rattle.std.proofs.Common.{◌≡◌, ℕ, zero, suc, ◌<◌, ◌≤◌, max, List, [], ◌∷◌, ◌++◌, get_or, Some, refl, ap, inl, inr, slice_get, arith}
use Rattle.std.proofs.lemmas.Bool.{cases_lt}
use Rattle.std.proofs.lemmas.Option.{same_Some, none-some}
use Rattle.book_base.specs.BookAt.{greatest_count}

-- the greatest count of two joined lists of cuts is the greater one of theirs
pub greatest_count-append : (xs ys : List (List ℕ)) (i : ℕ)
    → greatest_count (xs ++ ys) i ≡ max (greatest_count xs i) (greatest_count ys i)
greatest_count-append [] ys i = omega arith
greatest_count-append (x ∷ xs) ys i = omega (arith, greatest_count-append xs ys i)

-- no cut has more than the greatest count
pub greatest_count-at_least : (cuts : List (List ℕ)) (k : ℕ) (cut : List ℕ) (i : ℕ)
    → slice_get cuts k ≡ Some cut → get_or cut i 0 ≤ greatest_count cuts i
greatest_count-at_least [] k cut i e = absurd (none-some cut e)
greatest_count-at_least (c ∷ cuts) zero cut i e =
    omega (arith, ap (λ (x : List ℕ). get_or x i 0) (same_Some c cut e))
greatest_count-at_least (c ∷ cuts) (suc k) cut i e =
    omega (arith, greatest_count-at_least cuts k cut i e)

-- some cut has more than a number where the greatest count is above this number
pub greatest_count-reached : (cuts : List (List ℕ)) (n i : ℕ) → n < greatest_count cuts i → (k : ℕ)
    × (cut : List ℕ) × (slice_get cuts k ≡ Some cut) × (n < get_or cut i 0)
greatest_count-reached [] n i h = absurd (omega arith)
greatest_count-reached (c ∷ cuts) n i h =
    elim (cases_lt n (get_or c i 0)) [
      | inl here ↦ (0, c, refl, here)
      | inr later ↦ let found = greatest_count-reached cuts n i (omega arith) in
          (suc found.0, found.1, found.2, found.3)
    ]
