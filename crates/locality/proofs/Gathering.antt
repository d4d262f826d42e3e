-- Lists for numbers, each of items with its number as their tag, one after another.
use Rattle.std.proofs.Common.{◌≡◌, ◌≢◌, ℕ, zero, suc, ◌<◌, ◌≤◌, ◌∙◌, Bool, nat_eq, List, [], ◌∷◌, ◌++◌, append-nil, filter, map, refl, sym, ap, inl, inr, arith}
use Rattle.std.specs.List.{AllByRecursion}
use Rattle.std.proofs.lemmas.Bool.{cases_Bool, cases_eq, cases_lt, eq-eqb, ne_eqb}
use Rattle.std.proofs.lemmas.List.Elements.{filter-append}
use Rattle.smaller_book.proofs.Filtering.{filter-kept, filter-gone}

-- The lists of the numbers below a bound, the last one first.
abbrev pub gathered : {X : Type 0} → (ℕ → List X) → ℕ → List X
gathered lists zero = []
gathered lists (suc n) = lists n ++ gathered lists n

-- The test whether an item has this tag.
abbrev pub has_tag : {X : Type 0} → (X → ℕ) → ℕ → X → Bool
has_tag tag k x = nat_eq (tag x) k

-- The items of a list that all have a tag are kept.
pub filter-own_tag : {X : Type 0} (tag : X → ℕ) (k : ℕ) (xs : List X)
    → AllByRecursion (λ x. tag x ≡ k) xs → filter (has_tag tag k) xs ≡ xs
filter-own_tag tag k [] own = refl
filter-own_tag {X} tag k (x ∷ xs) own =
    filter-kept (has_tag tag k) x xs (eq-eqb (tag x) k own.0)
    ∙ ap (λ (ys : List X). x ∷ ys) (filter-own_tag tag k xs own.1)

-- The items of a list that all have another tag are dropped.
pub filter-other_tag : {X : Type 0} (tag : X → ℕ) (k n : ℕ) (xs : List X) → n ≢ k
    → AllByRecursion (λ x. tag x ≡ n) xs → filter (has_tag tag k) xs ≡ []
filter-other_tag tag k n [] apart own = refl
filter-other_tag tag k n (x ∷ xs) apart own =
    filter-gone (has_tag tag k) x xs (ne_eqb (tag x) k (λ same. apart (sym own.0 ∙ same)))
    ∙ filter-other_tag tag k n xs apart own.1

module _ {X : Type 0} (tag : X → ℕ) (lists : ℕ → List X)
    (own : (n : ℕ) → AllByRecursion (λ x. tag x ≡ n) (lists n)) where
  -- Of the lists below a bound, none has an item with a tag from the bound on.
  pub filter-gathered_past : (k n : ℕ) → n ≤ k → filter (has_tag tag k) (gathered lists n) ≡ []
  filter-gathered_past k zero past = refl
  filter-gathered_past k (suc n) past =
      filter-append (has_tag tag k) (lists n) (gathered lists n)
      ∙ (ap (λ (xs : List X). xs ++ filter (has_tag tag k) (gathered lists n))
      (filter-other_tag tag k n (lists n) (λ e. absurd (omega (arith, e, past))) (own n))
      ∙ filter-gathered_past k n (omega (arith, past)))

  -- Of the lists below a bound, the items with a tag below it are those of its list.
  pub filter-gathered : (k n : ℕ) → k < n → filter (has_tag tag k) (gathered lists n) ≡ lists k
  filter-gathered k zero below = absurd (omega (arith, below))
  filter-gathered k (suc n) below =
      filter-append (has_tag tag k) (lists n) (gathered lists n)
      ∙ elim (cases_eq n k) [
        | inl same ↦
            ap (λ (m : ℕ). filter (has_tag tag k) (lists m) ++ filter (has_tag tag k)
            (gathered lists n)) same
            ∙ (ap (λ (xs : List X). xs ++ filter (has_tag tag k) (gathered lists n))
            (filter-own_tag tag k (lists k) (own k))
            ∙ (ap (λ (xs : List X). lists k ++ xs)
            (filter-gathered_past k n (omega (arith, same))) ∙ append-nil (lists k)))
        | inr apart ↦
            ap (λ (xs : List X). xs ++ filter (has_tag tag k) (gathered lists n))
            (filter-other_tag tag k n (lists n) apart (own n))
            ∙ filter-gathered k n (le_apart n k apart (omega (arith, below)))
      ]
    where
      le_apart : (n k : ℕ) → n ≢ k → k ≤ n → k < n
      le_apart n k apart le = elim (cases_lt k n) [
        | inl less ↦ less
        | inr more ↦ absurd (apart (omega (arith, le, more)))
      ]

-- A filter after a map is the map after the filter whose test maps its item first.
pub filter-map : {X Y : Type 0} (p : Y → Bool) (f : X → Y) (xs : List X)
    → filter p (map f xs) ≡ map f (filter (λ x. p (f x)) xs)
filter-map p f [] = refl
filter-map {X} {Y} p f (x ∷ xs) = elim (cases_Bool (p (f x))) [
  | inl kept ↦
      filter-kept p (f x) (map f xs) kept
      ∙ (ap (λ (ys : List Y). f x ∷ ys) (filter-map p f xs)
      ∙ ap (map f) (sym (filter-kept (λ z. p (f z)) x xs kept)))
  | inr gone ↦
      filter-gone p (f x) (map f xs) gone
      ∙ (filter-map p f xs ∙ ap (map f) (sym (filter-gone (λ z. p (f z)) x xs gone)))
]
