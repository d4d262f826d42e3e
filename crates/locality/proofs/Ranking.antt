-- Items of which some have a size, each with the least size from it on as its rank, up to the last
-- one that has a size.
use Rattle.std.proofs.Common.{◌≡◌, ℕ, zero, suc, ◌≤◌, ◌∙◌, min, List, [], ◌∷◌, ◌++◌, map, slice_get, Option, Some, None, refl, sym, ap, subst, inl, inr, arith}
use Rattle.std.specs.List.{AllByRecursion}
use Rattle.std.proofs.lemmas.Bool.{cases_lt}
use Rattle.std.proofs.lemmas.Option.{none-some, same_Some}
use Rattle.locality.proofs.Sorting.{all_weaker, IsRankSorted}

-- the less of a size and the rank of the first item
abbrev least_from : {X : Type 0} → ℕ → List (ℕ × X) → ℕ
least_from n [] = n
least_from n (y ∷ ys) = min n y.0

-- ranked items with one more item before them
abbrev with_rank : {X : Type 0} → Option ℕ → X → List (ℕ × X) → List (ℕ × X)
with_rank (Some n) x ys = (least_from n ys, x) ∷ ys
with_rank None x [] = []
with_rank None x (y ∷ ys) = (y.0, x) ∷ y ∷ ys

-- Each item up to the last one that has a size, with the least size from it on as its rank.
abbrev pub ranked : {X : Type 0} → (X → Option ℕ) → List X → List (ℕ × X)
ranked size [] = []
ranked size (x ∷ xs) = with_rank (size x) x (ranked size xs)

sorted-with_rank : {X : Type 0} (o : Option ℕ) (x : X) (ys : List (ℕ × X)) → IsRankSorted ys
    → IsRankSorted (with_rank o x ys)
sorted-with_rank (Some n) x [] is = (tt, tt)
sorted-with_rank {X} (Some n) x (y ∷ ys) is =
    let le : min n y.0 ≤ y.0 = omega arith in
    let rest : AllByRecursion (λ (z : ℕ × X). min n y.0 ≤ z.0) ys =
    all_weaker (λ (z : ℕ × X). y.0 ≤ z.0) (λ (z : ℕ × X). min n y.0 ≤ z.0)
    (λ z more. omega (arith, le, more)) ys is.0 in
    ((le, rest), is)
sorted-with_rank None x [] is = tt
sorted-with_rank None x (y ∷ ys) is = ((omega arith, is.0), is)

-- Ranked items are sorted.
pub ranked-sorted : {X : Type 0} (size : X → Option ℕ) (xs : List X)
    → IsRankSorted (ranked size xs)
ranked-sorted size [] = tt
ranked-sorted size (x ∷ xs) =
    sorted-with_rank (size x) x (ranked size xs) (ranked-sorted size xs)

-- The ranked items are a prefix of the list.
pub ranked-prefix : {X : Type 0} (size : X → Option ℕ) (xs : List X)
    → (rest : List X) × (map (λ (y : ℕ × X). y.1) (ranked size xs) ++ rest ≡ xs)
ranked-prefix size [] = ([], refl)
ranked-prefix {X} size (x ∷ xs) =
    longer (size x) x (ranked size xs) xs (ranked-prefix size xs)
  where
    longer : (o : Option ℕ) (x : X) (ys : List (ℕ × X)) (xs : List X)
        → ((rest : List X) × (map (λ (y : ℕ × X). y.1) ys ++ rest ≡ xs))
        → (rest : List X) × (map (λ (y : ℕ × X). y.1) (with_rank o x ys) ++ rest ≡ x ∷ xs)
    longer (Some n) x ys xs (rest, is) = (rest, ap (λ (zs : List X). x ∷ zs) is)
    longer None x [] xs (rest, is) = (x ∷ xs, refl)
    longer None x (y ∷ ys) xs (rest, is) = (rest, ap (λ (zs : List X). x ∷ zs) is)

-- An item at an index or after it has this size.
pub record IsSizedFrom {X : Type 0} (size : X → Option ℕ) (xs : List X) (k n : ℕ) : Type 0 where
  pub index : ℕ
  pub item : X
  pub from : k ≤ index
  pub at : slice_get xs index ≡ Some item
  pub sized : size item ≡ Some n

sized_later : {X : Type 0} (size : X → Option ℕ) (x : X) (xs : List X) (k l n : ℕ)
    → IsSizedFrom size xs k n → l ≤ suc k → IsSizedFrom size (x ∷ xs) l n
sized_later size x xs k l n from le = record {
  index = suc from.index;
  item = from.item;
  from = omega (arith, from.from, le);
  at = from.at;
  sized = from.sized;
}

-- A ranked item stands in the list at its index, and some item from it on has its rank as its size.
abbrev pub IsRankedAt : {X : Type 0} → (X → Option ℕ) → List X → ℕ → ℕ × X → Type 0
IsRankedAt size xs k y = (slice_get xs k ≡ Some y.1) × IsSizedFrom size xs k y.0

ranked_first : {X : Type 0} (size : X → Option ℕ) (x : X) (xs : List X) (n m : ℕ) (y : ℕ × X)
    → IsSizedFrom size (x ∷ xs) 0 n → m ≡ n → ◌≡◌ {A = ℕ × X} (m, x) y
    → IsRankedAt size (x ∷ xs) 0 y
ranked_first {X} size x xs n m y sized same is =
    subst (λ (z : ℕ × X). IsRankedAt size (x ∷ xs) 0 z) is
    (refl, subst (λ (k : ℕ). IsSizedFrom size (x ∷ xs) 0 k) (sym same) sized)

ranked_with : {X : Type 0} (size : X → Option ℕ) (o : Option ℕ) (x : X) (ys : List (ℕ × X))
    (xs : List X) → size x ≡ o
    → ((k : ℕ) (y : ℕ × X) → slice_get ys k ≡ Some y → IsRankedAt size xs k y) → (k : ℕ)
    (y : ℕ × X) → slice_get (with_rank o x ys) k ≡ Some y → IsRankedAt size (x ∷ xs) k y
ranked_with size (Some n) x [] xs sized holds zero y at =
    ranked_first size x xs n n y
    (record { index = 0; item = x; from = omega arith; at = refl; sized = sized }) refl
    (same_Some (n, x) y at)
ranked_with {X} size (Some n) x (z ∷ ys) xs sized holds zero y at = elim (cases_lt z.0 n) [
  | inl less ↦
      ranked_first size x xs z.0 (min n z.0) y
      (sized_later size x xs 0 0 z.0 (holds 0 z refl).1 (omega arith)) (omega (arith, less))
      (same_Some (min n z.0, x) y at)
  | inr le ↦
      ranked_first size x xs n (min n z.0) y
      (record { index = 0; item = x; from = omega arith; at = refl; sized = sized })
      (omega (arith, le)) (same_Some (min n z.0, x) y at)
]
ranked_with size (Some n) x ys xs sized holds (suc k) y at =
    let rest = holds k y at in
    (rest.0, sized_later size x xs k (suc k) y.0 rest.1 (omega arith))
ranked_with size None x [] xs sized holds k y at = absurd (none-some y at)
ranked_with size None x (z ∷ ys) xs sized holds zero y at =
    ranked_first size x xs z.0 z.0 y
    (sized_later size x xs 0 0 z.0 (holds 0 z refl).1 (omega arith)) refl
    (same_Some (z.0, x) y at)
ranked_with size None x (z ∷ ys) xs sized holds (suc k) y at =
    let rest = holds k y at in
    (rest.0, sized_later size x xs k (suc k) y.0 rest.1 (omega arith))

-- Each ranked item stands in the list at its index, and some item from it on has its rank as its
-- size.
pub ranked-at : {X : Type 0} (size : X → Option ℕ) (xs : List X) (k : ℕ) (y : ℕ × X)
    → slice_get (ranked size xs) k ≡ Some y → IsRankedAt size xs k y
ranked-at size [] k y at = absurd (none-some y at)
ranked-at size (x ∷ xs) k y at =
    ranked_with size (size x) x (ranked size xs) xs refl
    (λ j z there. ranked-at size xs j z there) k y at

ranked_past : {X : Type 0} (o : Option ℕ) (x : X) (ys : List (ℕ × X)) (k : ℕ) (y : ℕ × X)
    → slice_get ys k ≡ Some y → slice_get (with_rank o x ys) (suc k) ≡ Some y
ranked_past (Some n) x ys k y at = at
ranked_past None x [] k y at = absurd (none-some y at)
ranked_past None x (z ∷ ys) k y at = at

least-le : {X : Type 0} (n : ℕ) (ys : List (ℕ × X)) → least_from n ys ≤ n
least-le n [] = omega arith
least-le n (y ∷ ys) = omega arith

-- An item that has a size is ranked, and its rank is at most its size.
pub sized_is_ranked : {X : Type 0} (size : X → Option ℕ) (xs : List X) (k : ℕ) (x : X) (n : ℕ)
    → slice_get xs k ≡ Some x → size x ≡ Some n
    → (rank : ℕ) × (slice_get (ranked size xs) k ≡ Some (rank, x)) × (rank ≤ n)
sized_is_ranked size [] k x n at sized = absurd (none-some x at)
sized_is_ranked {X} size (y ∷ ys) zero x n at sized =
    let same : y ≡ x = same_Some y x at in
    let rank : ℕ = least_from n (ranked size ys) in (
      rank,
      ap (λ (o : Option ℕ). slice_get (with_rank o y (ranked size ys)) 0) (ap size same ∙ sized)
          ∙ ap (λ (z : X). Some (rank, z)) same,
      least-le n (ranked size ys),
    )
sized_is_ranked size (y ∷ ys) (suc k) x n at sized =
    let rest = sized_is_ranked size ys k x n at sized in
    (rest.0, ranked_past (size y) y (ranked size ys) k (rest.0, x) rest.1, rest.2)
