-- What the test of two cuts decides.
use Rattle.std.proofs.Common.{◌≡◌, ◌↔◌, ℕ, zero, suc, ◌≤◌, Bool, true, false, nat_le, List, [], ◌∷◌, slice_index, refl, sym, arith}
use Rattle.std.proofs.lemmas.Bool.{and_parts, and_from, leb-true, le-leb}
use Rattle.book_base.specs.Cut.{IsWithin}
use Rattle.broken_rules.specs.Tallies.{is_within}

-- no count of a cut within another one is greater
pub within_counts : (xs ys : List ℕ) → is_within xs ys ≡ true → (i : ℕ)
    → slice_index xs i ≤ slice_index ys i
within_counts [] ys e i = omega arith
within_counts (x ∷ xs) [] e zero =
    leb-true x 0 (and_parts (nat_le x 0) (is_within xs []) e).0
within_counts (x ∷ xs) [] e (suc i) =
    within_counts xs [] (and_parts (nat_le x 0) (is_within xs []) e).1 i
within_counts (x ∷ xs) (y ∷ ys) e zero =
    leb-true x y (and_parts (nat_le x y) (is_within xs ys) e).0
within_counts (x ∷ xs) (y ∷ ys) e (suc i) =
    within_counts xs ys (and_parts (nat_le x y) (is_within xs ys) e).1 i

counts_within : (xs ys : List ℕ) → IsWithin xs ys → is_within xs ys ≡ true
counts_within [] ys all = refl
counts_within (x ∷ xs) [] all = and_from (nat_le x 0) (is_within xs [])
    (le-leb x 0 (all 0)) (counts_within xs [] (λ i. all (suc i)))
counts_within (x ∷ xs) (y ∷ ys) all = and_from (nat_le x y) (is_within xs ys)
    (le-leb x y (all 0)) (counts_within xs ys (λ i. all (suc i)))

-- two tests that decide the same are equal
same_answer : {P : Type 0} (a b : Bool) → (a ≡ true) ↔ P → (b ≡ true) ↔ P → a ≡ b
same_answer true b one other = sym (other.1 (one.0 refl))
same_answer false true one other = one.1 (other.0 refl)
same_answer false false one other = refl

-- a test that is true exactly where a cut is within another one
pub within_is : {b : Bool} (xs ys : List ℕ) → (b ≡ true) ↔ IsWithin xs ys → b ≡ is_within xs ys
within_is {b} xs ys both =
    same_answer b (is_within xs ys) both (within_counts xs ys, counts_within xs ys)
