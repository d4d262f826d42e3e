-- The greatest counts of cuts that are pairwise comparable are one of them.
use Rattle.std.proofs.Common.{◌≡◌, ℕ, zero, suc, ◌<◌, ◌∙◌, List, [], ◌∷◌, get_or, Some, refl, sym, ap, inl, inr, slice_get, arith}
use Rattle.std.proofs.lemmas.Bool.{cases_lt}
use Rattle.std.proofs.lemmas.List.{get_or_past}
use Rattle.std.proofs.lemmas.List.FromFn.{get_or-map-range_with_len, fill_by_all}
use Rattle.std.proofs.lemmas.Option.{same_Some, none-some}
use Rattle.book_base.specs.Cut.{IsWithin}
use Rattle.book_base.specs.BookAt.{greatest_count}
use Rattle.legal_orders.specs.Greatest.{greatest_counts, ArePairwiseComparable, GreatestIsOne, GreatestContainsEach}
use Rattle.legal_orders.proofs.GreatestCounts.{greatest_count-at_least, greatest_count-reached}

contains_more : (first : List ℕ) (cuts : List (List ℕ)) (top : List ℕ) → IsWithin first top
    → ((k : ℕ) (cut : List ℕ) → slice_get cuts k ≡ Some cut → IsWithin cut top)
    → (k : ℕ) (cut : List ℕ) → slice_get (first ∷ cuts) k ≡ Some cut → IsWithin cut top
contains_more first cuts top here rest zero cut e i =
    omega (arith, here i, ap (λ (c : List ℕ). get_or c i 0) (same_Some first cut e))
contains_more first cuts top here rest (suc k) cut e i = rest k cut e i

-- one of pairwise comparable cuts contains each of them
one_contains_each : (first : List ℕ) (others : List (List ℕ)) → ArePairwiseComparable (first ∷ others)
    → (k : ℕ) × (top : List ℕ) × (slice_get (first ∷ others) k ≡ Some top)
    × ((k : ℕ) (cut : List ℕ) → slice_get (first ∷ others) k ≡ Some cut → IsWithin cut top)
one_contains_each first [] chain = (
  0,
  first,
  refl,
  contains_more first [] first (λ i. omega arith) (λ k cut e. absurd (none-some cut e)),
)
one_contains_each first (second ∷ others) chain =
    let rest = one_contains_each second others (λ j k a b x y. chain (suc j) (suc k) a b x y) in
    elim (chain 0 (suc rest.0) first rest.1 refl rest.2) [
      | inl under ↦
          (suc rest.0, rest.1, rest.2, contains_more first (second ∷ others) rest.1 under rest.3)
      | inr over ↦ (
        0,
        first,
        refl,
        contains_more first (second ∷ others) first (λ i. omega arith)
            (λ k cut e i. omega (arith, over i, rest.3 k cut e i)),
      )
    ]

-- the greatest counts of cuts are those of one that contains each of them
greatest_of_top : (cuts : List (List ℕ)) (k : ℕ) (top : List ℕ) → slice_get cuts k ≡ Some top
    → ((k : ℕ) (cut : List ℕ) → slice_get cuts k ≡ Some cut → IsWithin cut top)
    → (i : ℕ) → greatest_count cuts i ≡ get_or top i 0
greatest_of_top cuts k top there each i =
    elim (cases_lt (get_or top i 0) (greatest_count cuts i)) [
      | inl more ↦
          let found = greatest_count-reached cuts (get_or top i 0) i more in
          absurd (omega (arith, found.3, each found.0 found.1 found.2 i))
      | inr le ↦ omega (arith, greatest_count-at_least cuts k top i there)
    ]

pub greatest_is_one : GreatestIsOne
greatest_is_one n first others wide chain =
    let cuts = first ∷ others in
    let found = one_contains_each first others chain in
    let same : found.1 ≡ greatest_counts n cuts =
    fill_by_all (greatest_count cuts) found.1 n 0 (wide found.0 found.1 found.2)
    (λ (i : ℕ) (h : i < n). sym (greatest_of_top cuts found.0 found.1 found.2 found.3 i)) in
    (found.0, found.2 ∙ ap (λ (c : List ℕ). Some c) same)

pub greatest_contains_each : GreatestContainsEach
greatest_contains_each n cuts wide k cut e i =
    elim (cases_lt i n) [
      | inl inside ↦ omega (
        arith,
        greatest_count-at_least cuts k cut i e,
        get_or-map-range_with_len (greatest_count cuts) 0 n i i 0 inside (omega arith),
      )
      | inr past ↦ omega (arith, get_or_past cut i 0 (omega (arith, wide k cut e)))
    ]
