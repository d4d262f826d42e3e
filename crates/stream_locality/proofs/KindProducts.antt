-- An object of a kind is a product of objects of this kind, one for each key.
use Rattle.std.proofs.Common.{◌≡◌, ℕ, ◌==◌, false, List, [], ◌∷◌, filter, slice_get, Option, Some, None, unwrap_or, inl, inr, refl, sym, ap, subst, ◌∙◌, if◌then◌else◌}
use Rattle.std.specs.List.{AllByRecursion}
use Rattle.std.proofs.lemmas.Bool.{cases_eq, cond-true, cond-false, eq-eqb, ne_eqb}
use Rattle.std.proofs.lemmas.Option.{none-some, same_Some}
use Rattle.book_base.specs.SeqSpec.{SeqSpec}
use Rattle.legal_orders.specs.Keys.{IsKeyed}
use Rattle.seq_objects.specs.declared.kind.Kind.TheVariants as kinds
use Rattle.seq_objects.specs.declared.int_set.IntSetOperation.{IntSetOperation}
use Rattle.seq_objects.specs.declared.int_set.IntSetOperation.TheVariants.{Add, Remove, Has}
use Rattle.seq_objects.specs.declared.map.MapOperation.{MapOperation}
use Rattle.seq_objects.specs.declared.map.MapOperation.TheVariants.{Put, Get, Delete}
use Rattle.seq_objects.specs.IntSetSteps.{set_operation, set_after}
use Rattle.seq_objects.specs.MapSteps.{key_of, map_operation, map_after}
use Rattle.seq_objects.specs.Objects.{kind_next, kind_spec}
use Rattle.kind_search.specs.Keys.{key_in_set, set_key, key_in_map, map_key}
use Rattle.kind_search.proofs.SetKeys.{set_is_keyed}
use Rattle.kind_search.proofs.MapKeys.{map_is_keyed}
use Rattle.locality.specs.Locality.{IsProduct}
use Rattle.locality.proofs.Sorting.{all_from_indices, filter-index}
use Rattle.locality.proofs.Gathering.{filter-own_tag}
use Rattle.stream_locality.specs.KindKeys.{key_of_kind, KindsAreProducts, KindLocality}
use Rattle.stream_locality.proofs.Merging.{stream_locality}

-- ---- objects of keys whose parts are those items that have a key

-- a word that has no key changes no list
abbrev LeavesUnkeyed : (ℕ → Option ℕ) → (List ℕ → ℕ → List ℕ × ℕ) → Type 0
LeavesUnkeyed key next = (list : List ℕ) (op : ℕ) → key op ≡ None → (next list op).0 ≡ list

module _ (key : ℕ → Option ℕ) (of_item : ℕ → ℕ) (next : List ℕ → ℕ → List ℕ × ℕ)
    (is : IsKeyed key (λ k list. filter (λ item. of_item item == k) list) next)
    (leaves : LeavesUnkeyed key next) where
  abbrev items_of : ℕ → List ℕ → List ℕ
  items_of k list = filter (λ item. of_item item == k) list

  -- items that all have a key are all those that have it
  all_items : (k : ℕ) (list : List ℕ) → AllByRecursion (λ item. of_item item ≡ k) list
      → items_of k list ≡ list
  all_items k list own = filter-own_tag of_item k list own

  -- a list has no item with a key of which it has none
  lacks : (k i : ℕ) (item : ℕ) (list : List ℕ) → items_of k list ≡ []
      → slice_get list i ≡ Some item → of_item item ≡ k → ⊥
  lacks k i item list none at same =
      let found = filter-index (λ x. of_item x == k) list i item at
      (eq-eqb (of_item item) k same) in
      none-some item (ap (λ (xs : List ℕ). slice_get xs found.0) (sym none) ∙ found.1)

  filter_passes : (k : ℕ) (list : List ℕ)
      → AllByRecursion (λ item. of_item item ≡ k) (items_of k list)
  filter_passes k [] = tt
  filter_passes k (x ∷ xs) = elim (cases_eq (of_item x) k) [
    | inl same ↦ subst (AllByRecursion (λ item. of_item item ≡ k))
        (sym (cond-true (of_item x == k) (x ∷ items_of k xs) (items_of k xs)
        (eq-eqb (of_item x) k same))) (same, filter_passes k xs)
    | inr apart ↦ subst (AllByRecursion (λ item. of_item item ≡ k))
        (sym (cond-false (of_item x == k) (x ∷ items_of k xs) (items_of k xs)
        (ne_eqb (of_item x) k apart))) (filter_passes k xs)
  ]

  twice : (k : ℕ) (list : List ℕ) → items_of k (items_of k list) ≡ items_of k list
  twice k list = all_items k (items_of k list) (filter_passes k list)

  -- a list of the items of one key has none of another one
  other_none : (j k : ℕ) (list : List ℕ) → (j ≡ k → ⊥) → items_of j (items_of k list) ≡ []
  other_none j k list apart =
      none_of (items_of k list) (filter_passes k list)
    where
      none_of : (xs : List ℕ) → AllByRecursion (λ item. of_item item ≡ k) xs
          → items_of j xs ≡ []
      none_of [] own = refl
      none_of (x ∷ xs) own =
          cond-false (of_item x == j) (x ∷ items_of j xs) (items_of j xs)
          (ne_eqb (of_item x) j (λ same. apart (sym same ∙ own.0)))
          ∙ none_of xs own.1

  -- an operation on a key leaves only items of the key, where there were no others
  only_own : (list : List ℕ) (op k : ℕ) → key op ≡ Some k
      → items_of k (next (items_of k list) op).0 ≡ (next (items_of k list) op).0
  only_own list op k has =
      let after : List ℕ = (next (items_of k list) op).0 in
      all_items k after (all_from_indices (λ item. of_item item ≡ k) after (λ i item at.
      elim (cases_eq (of_item item) k) [
        | inl same ↦ same
        | inr apart ↦
            let j : ℕ = of_item item in
            let none : items_of j after ≡ [] =
            is.others (items_of k list) op j
            (λ both. apart (same_Some j k (sym both ∙ has)))
            ∙ other_none j k list apart in
            absurd (lacks j i item after none at refl)
      ]))

  -- the object is a product
  pub keyed_product : IsProduct (λ op. unwrap_or (key op) 0)
      (λ k list. filter (λ item. of_item item == k) list)
      (λ _. record { init = []; next = next }) (record { init = []; next = next })
  keyed_product = record {
    init = λ k. refl;
    reply = λ list op. by_key list op (key op) refl;
    own = λ list op. own_by_key list op (key op) refl;
    others = λ list op k other. others_by_key list op k (key op) refl other;
  }
    where
      by_key : (list : List ℕ) (op : ℕ) (o : Option ℕ) → key op ≡ o
          → (next list op).1 ≡ (next (items_of (unwrap_or (key op) 0) list) op).1
      by_key list op None none =
          is.unkeyed list (items_of (unwrap_or (key op) 0) list) op none
      by_key list op (Some k) has =
          subst (λ (o : Option ℕ). (next list op).1 ≡ (next (items_of (unwrap_or o 0) list) op).1)
          (sym has) (is.reply list (items_of k list) op k has (sym (twice k list)))

      own_by_key : (list : List ℕ) (op : ℕ) (o : Option ℕ) → key op ≡ o
          → items_of (unwrap_or (key op) 0) (next list op).0
          ≡ (next (items_of (unwrap_or (key op) 0) list) op).0
      own_by_key list op None none =
          ap (items_of (unwrap_or (key op) 0)) (leaves list op none)
          ∙ sym (leaves (items_of (unwrap_or (key op) 0) list) op none)
      own_by_key list op (Some k) has =
          subst (λ (o : Option ℕ). items_of (unwrap_or o 0) (next list op).0
          ≡ (next (items_of (unwrap_or o 0) list) op).0) (sym has)
          (is.own list (items_of k list) op k has (sym (twice k list)) ∙ only_own list op k has)

      others_by_key : (list : List ℕ) (op k : ℕ) (o : Option ℕ) → key op ≡ o
          → (unwrap_or (key op) 0 ≡ k → ⊥) → items_of k (next list op).0 ≡ items_of k list
      others_by_key list op k None none other = ap (items_of k) (leaves list op none)
      others_by_key list op k (Some j) has other =
          is.others list op k (λ both. other (ap (λ (o : Option ℕ). unwrap_or o 0) both))

-- ---- the kinds

set_leaves : (list : List ℕ) (asked : Option IntSetOperation) → key_in_set asked ≡ None
    → (set_after list asked).0 ≡ list
set_leaves list (Some (Add value)) none = absurd (none-some value (sym none))
set_leaves list (Some (Remove value)) none = absurd (none-some value (sym none))
set_leaves list (Some (Has value)) none = refl
set_leaves list None none = refl

map_leaves : (list : List ℕ) (asked : Option MapOperation) → key_in_map asked ≡ None
    → (map_after list asked).0 ≡ list
map_leaves list (Some (Put key value)) none = absurd (none-some key (sym none))
map_leaves list (Some (Get key)) none = refl
map_leaves list (Some (Delete key)) none = absurd (none-some key (sym none))
map_leaves list None none = refl

-- the whole list is that of key 0, and each other key has the first list
abbrev whole_list : List ℕ → ℕ → List ℕ → List ℕ
whole_list init k list = if k == 0 then list else init

-- an object whose words all have the key 0 is a product
one_product : (spec : SeqSpec) → IsProduct (λ _. 0) (whole_list spec.init) (λ _. spec) spec
one_product spec = record {
  init = λ k. elim (cases_eq k 0) [
    | inl same ↦ cond-true (k == 0) spec.init spec.init (eq-eqb k 0 same)
    | inr apart ↦ cond-false (k == 0) spec.init spec.init (ne_eqb k 0 apart)
  ];
  reply = λ list op. refl;
  own = λ list op. refl;
  others = λ list op k other.
      let fails : (k == 0) ≡ false = ne_eqb k 0 (λ same. other (sym same)) in
      cond-false (k == 0) (spec.next list op).0 spec.init fails
      ∙ sym (cond-false (k == 0) list spec.init fails);
}

pub kinds_are_products : KindsAreProducts
unfolding kind_next
kinds_are_products kinds.IntSet = (
  _,
  keyed_product set_key (λ item. item) (kind_next kinds.IntSet) set_is_keyed
      (λ list op none. set_leaves list (set_operation op) none),
)
kinds_are_products kinds.Map = (
  _,
  keyed_product map_key key_of (kind_next kinds.Map) map_is_keyed
      (λ list op none. map_leaves list (map_operation op) none),
)
kinds_are_products kinds.Queue = (_, one_product (kind_spec kinds.Queue))
kinds_are_products kinds.Stack = (_, one_product (kind_spec kinds.Stack))
kinds_are_products kinds.Pqueue = (_, one_product (kind_spec kinds.Pqueue))
kinds_are_products kinds.Register = (_, one_product (kind_spec kinds.Register))
kinds_are_products kinds.Counter = (_, one_product (kind_spec kinds.Counter))
kinds_are_products kinds.CasRegister = (_, one_product (kind_spec kinds.CasRegister))

pub kind_locality : KindLocality
kind_locality kind whole places parts of_keys =
    let is = kinds_are_products kind in
    stream_locality (key_of_kind kind) is.0 (λ _. kind_spec kind) (kind_spec kind) whole places
    parts is.1 of_keys
