-- Orders of several keys, merged. The rank of an item is the least size of an item from it on in its
-- key's order, and an item from which on none has a size is left out. All items are sorted by rank.
use Rattle.std.proofs.Common.{◌≡◌, ℕ, ◌<◌, ◌≤◌, ◌∙◌, List, [], ◌++◌, map, filter, slice_get, Option, Some, refl, sym, ap, subst, inl, inr}
use Rattle.std.specs.List.{AllByRecursion}
use Rattle.std.proofs.lemmas.Bool.{cases_lt, eq-eqb}
use Rattle.std.proofs.lemmas.List.{map-append}
use Rattle.std.proofs.lemmas.Option.{none-some}
use mathlib.Core.List.{map-map}
use Rattle.book_base.specs.SeqSpec.{SeqSpec}
use Rattle.book_base.specs.Sequential.{IsRunFrom, IsLegalRun}
use Rattle.broken_rules.proofs.Stepping.{runs_before}
use Rattle.locality.specs.Locality.{IsProduct, steps_of_key}
use Rattle.locality.proofs.Running.{runs_of_products}
use Rattle.locality.proofs.Sorting.{all_from_indices, IsRankSorted, sort_by_rank, sort_by_rank-sorted, filter-sort_by_rank, filter-index, filter-indices, filter-index_back}
use Rattle.locality.proofs.Ranking.{ranked, ranked-sorted, ranked-prefix, ranked-at, IsRankedAt}
use Rattle.locality.proofs.Gathering.{gathered, has_tag, filter-gathered, filter-gathered_past, filter-map}

module _ {X : Type 0} (key : ℕ → ℕ) (step : X → ℕ × ℕ) (size : X → Option ℕ)
    (orders : ℕ → List X) (bound : ℕ)
    (own : (k j : ℕ) (x : X) → slice_get (orders k) j ≡ Some x → key (step x).0 ≡ k) where
  -- the ranked items of a key's order
  abbrev pub ranked_of : ℕ → List (ℕ × X)
  ranked_of k = ranked size (orders k)

  -- the key of a ranked item
  abbrev pub key_of_ranked : ℕ × X → ℕ
  key_of_ranked y = key (step y.1).0

  -- the ranked items of all keys below the bound, sorted by rank
  abbrev pub merged : List (ℕ × X)
  merged = sort_by_rank (gathered ranked_of bound)

  own_keys : (k : ℕ) → AllByRecursion (λ y. key_of_ranked y ≡ k) (ranked_of k)
  own_keys k = all_from_indices (λ (y : ℕ × X). key_of_ranked y ≡ k) (ranked_of k) (λ j y at.
      own k j y.1 (ranked-at size (orders k) j y at).0)

  pub merged-sorted : IsRankSorted merged
  merged-sorted = sort_by_rank-sorted (gathered ranked_of bound)

  -- of the merged items, those of a key below the bound are the key's, in their order
  merged_of_key : (k : ℕ) → k < bound → filter (has_tag key_of_ranked k) merged ≡ ranked_of k
  merged_of_key k below =
      let all = filter-gathered key_of_ranked ranked_of own_keys k bound below in
      filter-sort_by_rank (has_tag key_of_ranked k) (gathered ranked_of bound)
      (subst IsRankSorted (sym all) (ranked-sorted size (orders k))) ∙ all

  -- and no item has a key from the bound on
  merged_past : (k : ℕ) → bound ≤ k → filter (has_tag key_of_ranked k) merged ≡ []
  merged_past k past =
      let none = filter-gathered_past key_of_ranked ranked_of own_keys k bound past in
      filter-sort_by_rank (has_tag key_of_ranked k) (gathered ranked_of bound)
      (subst IsRankSorted (sym none) tt) ∙ none

  -- what a filter by a key keeps of the merged items is in the key's list
  kept_in_list : (k i : ℕ) (y : ℕ × X)
      → slice_get (filter (has_tag key_of_ranked k) merged) i ≡ Some y
      → slice_get (ranked_of k) i ≡ Some y
  kept_in_list k i y at = elim (cases_lt k bound) [
    | inl below ↦ ap (λ (ys : List (ℕ × X)). slice_get ys i) (sym (merged_of_key k below)) ∙ at
    | inr past ↦ absurd
        (none-some y (ap (λ (ys : List (ℕ × X)). slice_get ys i) (sym (merged_past k past)) ∙ at))
  ]

  -- A merged item is in the order of its key, with its rank.
  pub from_merged : (j : ℕ) (y : ℕ × X) → slice_get merged j ≡ Some y
      → (i : ℕ) × (slice_get (ranked_of (key_of_ranked y)) i ≡ Some y)
      × IsRankedAt size (orders (key_of_ranked y)) i y
  from_merged j y at =
      let k : ℕ = key_of_ranked y in
      let kept = filter-index (has_tag key_of_ranked k) merged j y at (eq-eqb k k refl) in
      let there = kept_in_list k kept.0 y kept.1 in
      (kept.0, there, ranked-at size (orders k) kept.0 y there)

  -- A ranked item of a key below the bound is merged.
  pub in_merged : (k i : ℕ) (y : ℕ × X) → k < bound → slice_get (ranked_of k) i ≡ Some y
      → (j : ℕ) × (slice_get merged j ≡ Some y)
  in_merged k i y below at = filter-index_back (has_tag key_of_ranked k) merged i y
      (ap (λ (ys : List (ℕ × X)). slice_get ys i) (merged_of_key k below) ∙ at)

  -- Of two merged items of one key the first one is also the first one in the key's order.
  pub before_in_key : (j l : ℕ) (y z : ℕ × X) → slice_get merged j ≡ Some y
      → slice_get merged l ≡ Some z → key_of_ranked y ≡ key_of_ranked z → j < l
      → (i : ℕ) × (m : ℕ) × (i < m)
      × (slice_get (orders (key_of_ranked z)) i ≡ Some y.1)
      × (slice_get (orders (key_of_ranked z)) m ≡ Some z.1)
  before_in_key j l y z at bt same less =
      let k : ℕ = key_of_ranked z in
      let kept = filter-indices (has_tag key_of_ranked k) merged j l y z less at bt
      (eq-eqb (key_of_ranked y) k same) (eq-eqb k k refl) in (
        kept.0,
        kept.1,
        kept.2,
        (ranked-at size (orders k) kept.0 y (kept_in_list k kept.0 y kept.3)).0,
        (ranked-at size (orders k) kept.1 z (kept_in_list k kept.1 z kept.4)).0,
      )

  -- the merged items without their ranks
  abbrev pub merged_order : List X
  merged_order = map (λ (y : ℕ × X). y.1) merged

  -- The merged items' steps of a key are a run of the key's object.
  run_of_key : (spec : SeqSpec) (k : ℕ) → IsLegalRun spec (map step (orders k))
      → IsLegalRun spec (steps_of_key key k (map step merged_order))
  run_of_key spec k run =
      let item : ℕ × X → X = λ y. y.1 in
      let own_step : ℕ × X → ℕ × ℕ = λ y. step y.1 in
      let same : steps_of_key key k (map step merged_order)
      ≡ map own_step (filter (has_tag key_of_ranked k) merged) =
      ap (steps_of_key key k) (map-map step item merged)
      ∙ filter-map (λ (s : ℕ × ℕ). has_tag key k s.0) own_step merged in
      subst (IsLegalRun spec) (sym same) (elim (cases_lt k bound) [
        | inl below ↦
            let rest = ranked-prefix size (orders k) in
            let whole : map step (orders k) ≡ map own_step (ranked_of k) ++ map step rest.0 =
            ap (map step) (sym rest.1)
            ∙ (map-append step (map item (ranked_of k)) rest.0
            ∙ ap (λ (ss : List (ℕ × ℕ)). ss ++ map step rest.0) (map-map step item (ranked_of k))) in
            subst (λ (ys : List (ℕ × X)). IsLegalRun spec (map own_step ys))
            (sym (merged_of_key k below))
            (runs_before spec.next spec.init (map own_step (ranked_of k)) (map step rest.0)
            (subst (IsLegalRun spec) whole run))
        | inr past ↦
            subst (λ (ys : List (ℕ × X)). IsLegalRun spec (map own_step ys))
            (sym (merged_past k past)) tt
      ])

  -- The merged items are a run of the product.
  pub merged_run : (list_of : ℕ → List ℕ → List ℕ) (objects : ℕ → SeqSpec) (product : SeqSpec)
      → IsProduct key list_of objects product
      → ((k : ℕ) → IsLegalRun (objects k) (map step (orders k)))
      → IsLegalRun product (map step merged_order)
  merged_run list_of objects product is runs =
      (runs_of_products key list_of objects product product.init (map step merged_order) is).1
      (λ k. subst (λ (list : List ℕ). IsRunFrom (objects k).next list
      (steps_of_key key k (map step merged_order))) (sym (is.init k))
      (run_of_key (objects k) k (runs k)))
