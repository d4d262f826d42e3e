-- A map is an object of keys: an operation sees and changes only the items that have its key.
use Rattle.std.proofs.Common.{◌≡◌, ◌≢◌, ℕ, ◌<◌, ◌^◌, ◌==◌, Bool, true, false, List, ◌∷◌, get_or, Option, Some, None, inl, inr, refl, sym, ap, subst, ◌∙◌, arith}
use Rattle.std.specs.List.{filter}
use Rattle.std.proofs.lemmas.Bool.{eqb-true, eq-eqb, ne_eqb}
use Rattle.std.proofs.lemmas.Option.{same_Some, none-some}
use Rattle.std.proofs.lemmas.List.Quantifiers.{position-Some}
use Rattle.list_laws.proofs.Options.{cases_Option}
use Rattle.legal_orders.specs.Keys.{IsKeyed}
use Rattle.seq_objects.specs.declared.map.MapOperation.{MapOperation}
use Rattle.seq_objects.specs.declared.map.MapOperation.TheVariants.{Put, Get, Delete}
use Rattle.seq_objects.specs.Replies.{reply_none, reply_value, reply_bad}
use Rattle.seq_objects.specs.Items.{place_for}
use Rattle.seq_objects.specs.MapSteps.{item_of, key_of, place_of_key, put_at, put_in, value_at, without, map_operation, map_after}
use Rattle.kind_search.specs.Keys.{key_in_map, map_key, map_part}
use Rattle.seq_objects.proofs.ReadOnly.{value_is_small}
use Rattle.kind_search.proofs.KeyedItems.{filter-insert_other, filter-insert_first, filter-remove_other, filter-remove_first, filter-set_other, filter-set_first, filter-found, filter-none, first_of, rest_of, item_at, first_passes}

-- the reply with the value of an item, if there is one
abbrev value_of_item : Option ℕ → ℕ
value_of_item None = reply_none
value_of_item (Some item) = reply_value item

-- the reply to an operation, and the items of its key after it, from the items of its key before it
abbrev replied : Option MapOperation → List ℕ → ℕ
replied (Some (Put key value)) items = value_of_item (first_of items)
replied (Some (Get key)) items = value_of_item (first_of items)
replied (Some (Delete key)) items = value_of_item (first_of items)
replied None items = reply_bad

abbrev left : Option MapOperation → List ℕ → List ℕ
left (Some (Put key value)) items = item_of key value ∷ rest_of items
left (Some (Get key)) items = items
left (Some (Delete key)) items = rest_of items
left None items = items

-- the value that an operation puts is below 2 ^ 32
abbrev PutsSmall : Option MapOperation → Type 0
PutsSmall asked = (key value : ℕ) → asked ≡ Some (Put key value) → value < 2 ^ 32

value_at_place : (list : List ℕ) (place : Option ℕ)
    → value_at list place ≡ value_of_item (item_at list place)
value_at_place list (Some place) = refl
value_at_place list None = refl

put_at_place : (list : List ℕ) (item : ℕ) (place : Option ℕ)
    → (put_at list item place).1 ≡ value_of_item (item_at list place)
put_at_place list item (Some place) = refl
put_at_place list item None = refl

-- the value of the first item with a key
value_there : (list : List ℕ) (key : ℕ) → value_of_item (item_at list (place_of_key list key))
    ≡ value_of_item (first_of (map_part key list))
value_there list key = ap value_of_item (first_passes (λ item. key_of item == key) list)

map_replied : (list : List ℕ) (asked : Option MapOperation) (k : ℕ) → key_in_map asked ≡ Some k
    → (map_after list asked).1 ≡ replied asked (map_part k list)
map_replied list (Some (Put key value)) k is =
    subst (λ (j : ℕ). (put_in list key value).1 ≡ value_of_item (first_of (map_part j list)))
    (same_Some key k is)
    (put_at_place list (item_of key value) (place_of_key list key) ∙ value_there list key)
map_replied list (Some (Get key)) k is =
    subst
    (λ (j : ℕ). value_at list (place_of_key list key) ≡ value_of_item (first_of (map_part j list)))
    (same_Some key k is)
    (value_at_place list (place_of_key list key) ∙ value_there list key)
map_replied list (Some (Delete key)) k is =
    subst
    (λ (j : ℕ). value_at list (place_of_key list key) ≡ value_of_item (first_of (map_part j list)))
    (same_Some key k is)
    (value_at_place list (place_of_key list key) ∙ value_there list key)
map_replied list None k is = absurd (none-some k is)

-- an item has the key that it was made of
key_of_item : (key value : ℕ) → value < 2 ^ 32 → key_of (item_of key value) ≡ key
key_of_item key value small = omega (arith, small)

-- the items of a key after a put of this key
put_left : (list : List ℕ) (key value : ℕ) → value < 2 ^ 32
    → map_part key (put_in list key value).0 ≡ item_of key value ∷ rest_of (map_part key list)
put_left list key value small =
    let p : ℕ → Bool = λ item. key_of item == key in
    let item : ℕ = item_of key value in
    let passes : p item ≡ true = eq-eqb (key_of item) key (key_of_item key value small) in
    elim (cases_Option (place_of_key list key)) as (λ _.
    map_part key (put_in list key value).0 ≡ item_of key value ∷ rest_of (map_part key list)) [
      | inl none ↦
          ap (λ (o : Option ℕ). filter p (put_at list item o).0) none
          ∙ (filter-insert_first p list (place_for list item) item passes (filter-none p list none)
          ∙ sym (ap (λ (ys : List ℕ). item ∷ rest_of ys) (filter-none p list none)))
      | inr found ↦
          ap (λ (o : Option ℕ). filter p (put_at list item o).0) found.1
          ∙ (filter-set_first p list found.0 item found.1 passes
          ∙ sym (ap (λ (ys : List ℕ). item ∷ rest_of ys) (filter-found p list found.0 found.1)))
    ]

-- the items of a key after a delete of this key
deleted_left : (list : List ℕ) (key : ℕ)
    → map_part key (without list (place_of_key list key)) ≡ rest_of (map_part key list)
deleted_left list key =
    let p : ℕ → Bool = λ item. key_of item == key in
    elim (cases_Option (place_of_key list key)) as
    (λ _. map_part key (without list (place_of_key list key)) ≡ rest_of (map_part key list)) [
      | inl none ↦
          ap (λ (o : Option ℕ). filter p (without list o)) none
          ∙ (filter-none p list none ∙ sym (ap rest_of (filter-none p list none)))
      | inr found ↦
          ap (λ (o : Option ℕ). filter p (without list o)) found.1
          ∙ (filter-remove_first p list found.0 found.1
          ∙ sym (ap rest_of (filter-found p list found.0 found.1)))
    ]

map_left : (list : List ℕ) (asked : Option MapOperation) (k : ℕ) → PutsSmall asked
    → key_in_map asked ≡ Some k → map_part k (map_after list asked).0 ≡ left asked (map_part k list)
map_left list (Some (Put key value)) k small is =
    subst (λ (j : ℕ). map_part j (put_in list key value).0
    ≡ item_of key value ∷ rest_of (map_part j list)) (same_Some key k is)
    (put_left list key value (small key value refl))
map_left list (Some (Get key)) k small is = refl
map_left list (Some (Delete key)) k small is =
    subst (λ (j : ℕ). map_part j (without list (place_of_key list key)) ≡ rest_of (map_part j list))
    (same_Some key k is) (deleted_left list key)
map_left list None k small is = refl

-- the item that is found for a key has no other key
found_apart : (list : List ℕ) (key k i : ℕ) → place_of_key list key ≡ Some i → (key ≡ k → ⊥)
    → (key_of (get_or list i 0) == k) ≡ false
found_apart list key k i at apart =
    let is : key_of (get_or list i 0) ≡ key = eqb-true (key_of (get_or list i 0)) key
    (position-Some (λ item. key_of item == key) list i 0 at).1 in
    ne_eqb (key_of (get_or list i 0)) k (λ (e : key_of (get_or list i 0) ≡ k). apart (sym is ∙ e))

put_others : (list : List ℕ) (key value k : ℕ) → value < 2 ^ 32 → (key ≡ k → ⊥)
    → map_part k (put_in list key value).0 ≡ map_part k list
put_others list key value k small apart =
    let p : ℕ → Bool = λ item. key_of item == k in
    let item : ℕ = item_of key value in
    let fails : p item ≡ false = ne_eqb (key_of item) k
    (λ (e : key_of item ≡ k). apart (sym (key_of_item key value small) ∙ e)) in
    elim (cases_Option (place_of_key list key)) as
    (λ _. map_part k (put_in list key value).0 ≡ map_part k list) [
      | inl none ↦ ap (λ (o : Option ℕ). filter p (put_at list item o).0) none
          ∙ filter-insert_other p list (place_for list item) item fails
      | inr found ↦
          ap (λ (o : Option ℕ). filter p (put_at list item o).0) found.1
          ∙ filter-set_other p list found.0 item
          (position-Some (λ x. key_of x == key) list found.0 0 found.1).0
          (found_apart list key k found.0 found.1 apart) fails
    ]

deleted_others : (list : List ℕ) (key k : ℕ) → (key ≡ k → ⊥)
    → map_part k (without list (place_of_key list key)) ≡ map_part k list
deleted_others list key k apart =
    let p : ℕ → Bool = λ item. key_of item == k in
    elim (cases_Option (place_of_key list key)) as
    (λ _. map_part k (without list (place_of_key list key)) ≡ map_part k list) [
      | inl none ↦ ap (λ (o : Option ℕ). filter p (without list o)) none
      | inr found ↦
          ap (λ (o : Option ℕ). filter p (without list o)) found.1
          ∙ filter-remove_other p list found.0
          (position-Some (λ x. key_of x == key) list found.0 0 found.1).0
          (found_apart list key k found.0 found.1 apart)
    ]

-- an operation doesn't change the items of any other key
map_others : (list : List ℕ) (asked : Option MapOperation) (k : ℕ) → PutsSmall asked
    → key_in_map asked ≢ Some k → map_part k (map_after list asked).0 ≡ map_part k list
map_others list (Some (Put key value)) k small other =
    put_others list key value k (small key value refl) (λ (e : key ≡ k). other (ap Some e))
map_others list (Some (Get key)) k small other = refl
map_others list (Some (Delete key)) k small other =
    deleted_others list key k (λ (e : key ≡ k). other (ap Some e))
map_others list None k small other = refl

map_unkeyed : (one other : List ℕ) (asked : Option MapOperation) → key_in_map asked ≡ None
    → (map_after one asked).1 ≡ (map_after other asked).1
map_unkeyed one other (Some (Put key value)) none = absurd (none-some key (sym none))
map_unkeyed one other (Some (Get key)) none = absurd (none-some key (sym none))
map_unkeyed one other (Some (Delete key)) none = absurd (none-some key (sym none))
map_unkeyed one other None none = refl

-- A map is an object of keys.
pub map_is_keyed : IsKeyed map_key map_part (λ list op. map_after list (map_operation op))
map_is_keyed = record {
  reply = λ one other op k key alike.
      let asked : Option MapOperation = map_operation op in
      map_replied one asked k key
      ∙ (ap (replied asked) alike ∙ sym (map_replied other asked k key));
  own = λ one other op k key alike.
      let asked : Option MapOperation = map_operation op in
      map_left one asked k (value_is_small op) key
      ∙ (ap (left asked) alike ∙ sym (map_left other asked k (value_is_small op) key));
  others = λ list op k other. map_others list (map_operation op) k (value_is_small op) other;
  unkeyed = λ one other op none. map_unkeyed one other (map_operation op) none;
}
