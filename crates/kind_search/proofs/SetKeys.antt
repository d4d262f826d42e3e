-- A set is an object of keys: an operation sees and changes only the items that are its key.
use Rattle.std.proofs.Common.{◌≡◌, ◌≢◌, ℕ, ◌==◌, Bool, true, false, List, [], ◌∷◌, get_or, Option, Some, None, is_some, if◌then◌else◌, inl, inr, refl, sym, ap, subst, ◌∙◌}
use Rattle.std.specs.List.{filter}
use Rattle.std.proofs.lemmas.Bool.{cond_both, eqb-true, eq-eqb, ne_eqb}
use Rattle.std.proofs.lemmas.Option.{same_Some, none-some}
use Rattle.std.proofs.lemmas.List.Quantifiers.{position-Some}
use Rattle.list_laws.proofs.Options.{cases_Option}
use Rattle.legal_orders.specs.Keys.{IsKeyed}
use Rattle.seq_objects.specs.declared.int_set.IntSetOperation.{IntSetOperation}
use Rattle.seq_objects.specs.declared.int_set.IntSetOperation.TheVariants.{Add, Remove, Has}
use Rattle.seq_objects.specs.Replies.{reply_no, reply_yes, reply_bad}
use Rattle.seq_objects.specs.Items.{place_of, place_for, inserted}
use Rattle.seq_objects.specs.IntSetSteps.{added, taken_out, removed, set_operation, set_after}
use Rattle.kind_search.specs.Keys.{key_in_set, set_key, set_part}
use Rattle.kind_search.proofs.KeyedItems.{filter-insert_other, filter-insert_first, filter-remove_other, filter-remove_first, filter-found, filter-none, first_of, rest_of, some_passes}

-- the reply to an operation, and the items of its key after it, from the items of its key before it
abbrev replied : Option IntSetOperation → List ℕ → ℕ
replied (Some (Add value)) items = if is_some (first_of items) then reply_no else reply_yes
replied (Some (Remove value)) items = if is_some (first_of items) then reply_yes else reply_no
replied (Some (Has value)) items = if is_some (first_of items) then reply_yes else reply_no
replied None items = reply_bad

abbrev left : Option IntSetOperation → List ℕ → List ℕ
left (Some (Add value)) items = if is_some (first_of items) then items else value ∷ []
left (Some (Remove value)) items = rest_of items
left (Some (Has value)) items = items
left None items = items

-- the list after adding a value, and the reply, by whether the value is there
abbrev added_when : Bool → List ℕ → List ℕ → List ℕ × ℕ
added_when there list new = if there then (list, reply_no) else (new, reply_yes)

added_reply : (there : Bool) (list new : List ℕ)
    → (added_when there list new).1 ≡ (if there then reply_no else reply_yes)
added_reply true list new = refl
added_reply false list new = refl

taken_out_reply : (list : List ℕ) (place : Option ℕ)
    → (taken_out list place).1 ≡ (if is_some place then reply_yes else reply_no)
taken_out_reply list (Some place) = refl
taken_out_reply list None = refl

set_replied : (list : List ℕ) (asked : Option IntSetOperation) (k : ℕ) → key_in_set asked ≡ Some k
    → (set_after list asked).1 ≡ replied asked (set_part k list)
set_replied list (Some (Add value)) k key =
    subst (λ (j : ℕ). (added list value).1 ≡ replied (Some (Add value)) (set_part j list))
    (same_Some value k key)
    (added_reply (is_some (place_of list value)) list (inserted list value)
    ∙ ap (λ (b : Bool). if b then reply_no else reply_yes) (some_passes (λ x. x == value) list))
set_replied list (Some (Remove value)) k key =
    subst (λ (j : ℕ). (removed list value).1 ≡ replied (Some (Remove value)) (set_part j list))
    (same_Some value k key)
    (taken_out_reply list (place_of list value)
    ∙ ap (λ (b : Bool). if b then reply_yes else reply_no) (some_passes (λ x. x == value) list))
set_replied list (Some (Has value)) k key =
    subst (λ (j : ℕ). (set_after list (Some (Has value))).1
    ≡ replied (Some (Has value)) (set_part j list)) (same_Some value k key)
    (ap (λ (b : Bool). if b then reply_yes else reply_no) (some_passes (λ x. x == value) list))
set_replied list None k key = absurd (none-some k key)

-- the items that are a value after adding this value
added_left : (list : List ℕ) (value : ℕ)
    → set_part value (added list value).0 ≡ left (Some (Add value)) (set_part value list)
added_left list value =
    let p : ℕ → Bool = λ x. x == value in
    let after : Option ℕ → List ℕ = λ o. (added_when (is_some o) list (inserted list value)).0 in
    elim (cases_Option (place_of list value)) as
    (λ _. set_part value (added list value).0 ≡ left (Some (Add value)) (set_part value list)) [
      | inl none ↦
          ap (λ (o : Option ℕ). filter p (after o)) none
          ∙ (filter-insert_first p list (place_for list value) value (eq-eqb value value refl)
          (filter-none p list none)
          ∙ sym (ap (left (Some (Add value))) (filter-none p list none)))
      | inr found ↦
          ap (λ (o : Option ℕ). filter p (after o)) found.1
          ∙ (filter-found p list found.0 found.1
          ∙ sym (ap (left (Some (Add value))) (filter-found p list found.0 found.1)))
    ]

-- the items that are a value after removing this value
removed_left : (list : List ℕ) (value : ℕ)
    → set_part value (removed list value).0 ≡ rest_of (set_part value list)
removed_left list value =
    let p : ℕ → Bool = λ x. x == value in
    elim (cases_Option (place_of list value)) as
    (λ _. set_part value (removed list value).0 ≡ rest_of (set_part value list)) [
      | inl none ↦
          ap (λ (o : Option ℕ). filter p (taken_out list o).0) none
          ∙ (filter-none p list none ∙ sym (ap rest_of (filter-none p list none)))
      | inr found ↦
          ap (λ (o : Option ℕ). filter p (taken_out list o).0) found.1
          ∙ (filter-remove_first p list found.0 found.1
          ∙ sym (ap rest_of (filter-found p list found.0 found.1)))
    ]

set_left : (list : List ℕ) (asked : Option IntSetOperation) (k : ℕ) → key_in_set asked ≡ Some k
    → set_part k (set_after list asked).0 ≡ left asked (set_part k list)
set_left list (Some (Add value)) k key =
    subst (λ (j : ℕ). set_part j (added list value).0 ≡ left (Some (Add value)) (set_part j list))
    (same_Some value k key) (added_left list value)
set_left list (Some (Remove value)) k key =
    subst
    (λ (j : ℕ). set_part j (removed list value).0 ≡ left (Some (Remove value)) (set_part j list))
    (same_Some value k key) (removed_left list value)
set_left list (Some (Has value)) k key = refl
set_left list None k key = refl

-- an operation doesn't change the items of any other key
set_others : (list : List ℕ) (asked : Option IntSetOperation) (k : ℕ) → key_in_set asked ≢ Some k
    → set_part k (set_after list asked).0 ≡ set_part k list
set_others list (Some (Add value)) k other =
    let p : ℕ → Bool = λ x. x == k in
    cond_both {A = List ℕ × ℕ} (is_some (place_of list value)) (list, reply_no)
    (inserted list value, reply_yes)
    (λ next. set_part k next.0 ≡ set_part k list) (λ there. refl)
    (λ absent. filter-insert_other p list (place_for list value) value
    (ne_eqb value k (λ (e : value ≡ k). other (ap Some e))))
set_others list (Some (Remove value)) k other =
    let p : ℕ → Bool = λ x. x == k in
    elim (cases_Option (place_of list value)) as
    (λ _. set_part k (removed list value).0 ≡ set_part k list) [
      | inl none ↦ ap (λ (o : Option ℕ). filter p (taken_out list o).0) none
      | inr found ↦
          let i : ℕ = found.0 in
          let at = position-Some (λ x. x == value) list i 0 found.1 in
          let is : get_or list i 0 ≡ value = eqb-true (get_or list i 0) value at.1 in
          ap (λ (o : Option ℕ). filter p (taken_out list o).0) found.1
          ∙ filter-remove_other p list i at.0
          (ne_eqb (get_or list i 0) k (λ (e : get_or list i 0 ≡ k). other (ap Some (sym is ∙ e))))
    ]
set_others list (Some (Has value)) k other = refl
set_others list None k other = refl

set_unkeyed : (one other : List ℕ) (asked : Option IntSetOperation) → key_in_set asked ≡ None
    → (set_after one asked).1 ≡ (set_after other asked).1
set_unkeyed one other (Some (Add value)) none = absurd (none-some value (sym none))
set_unkeyed one other (Some (Remove value)) none = absurd (none-some value (sym none))
set_unkeyed one other (Some (Has value)) none = absurd (none-some value (sym none))
set_unkeyed one other None none = refl

-- A set is an object of keys.
pub set_is_keyed : IsKeyed set_key set_part (λ list op. set_after list (set_operation op))
set_is_keyed = record {
  reply = λ one other op k key alike.
      let asked : Option IntSetOperation = set_operation op in
      set_replied one asked k key
      ∙ (ap (replied asked) alike ∙ sym (set_replied other asked k key));
  own = λ one other op k key alike.
      let asked : Option IntSetOperation = set_operation op in
      set_left one asked k key ∙ (ap (left asked) alike ∙ sym (set_left other asked k key));
  others = λ list op k other. set_others list (set_operation op) k other;
  unkeyed = λ one other op none. set_unkeyed one other (set_operation op) none;
}
