-- Sums of lists of numbers.
use Rattle.std.proofs.Common.{◌≡◌, ℕ, zero, suc, ◌+◌, ◌≤◌, List, [], ◌∷◌, length, sum, get_or, refl, arith}
use Rattle.std.proofs.lemmas.List.Sums.{sum_by-cons}

-- where no number of a list is greater than the other list's at its place, the sum is no greater
-- either
pub sum-within : (xs ys : List ℕ) → length xs ≤ length ys
    → ((i : ℕ) → get_or xs i 0 ≤ get_or ys i 0) → sum xs ≤ sum ys
sum-within [] ys wide within = omega arith
sum-within (x ∷ xs) [] wide within = absurd (omega arith)
sum-within (x ∷ xs) (y ∷ ys) wide within =
    let left : sum (x ∷ xs) ≡ x + sum xs = sum_by-cons (λ (n : ℕ). n) x xs in
    let right : sum (y ∷ ys) ≡ y + sum ys = sum_by-cons (λ (n : ℕ). n) y ys in
    let first : x ≤ y = within 0 in
    let rest = sum-within xs ys (omega arith) (λ i. within (suc i)) in
    omega arith
