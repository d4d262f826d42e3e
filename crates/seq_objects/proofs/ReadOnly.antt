-- Which steps are read-only, by their replies.
use Rattle.std.proofs.Common.{◌≡◌, ℕ, ◌/◌, ◌%◌, ◌^◌, ◌<◌, ◌↔◌, ◌⊎◌, ◌==◌, Bool, true, false, not, List, [], ◌∷◌, length, get_or, position, set, slice_index, Option, Some, None, is_some, IsTrue, if◌then◌else◌, nat_lt, inl, inr, refl, sym, ap, subst, ◌∙◌, arith}
use Rattle.std.proofs.lemmas.Bool.{cond-true, cond_both, cases_Bool, true≢false, eqb-true, eq-eqb, ltb-true, and_parts, true_from_ne_false}
use Rattle.std.proofs.lemmas.List.{set-get_or}
use Rattle.std.proofs.lemmas.List.Quantifiers.{position-Some}
use Rattle.seq_objects.specs.Replies.{reply_none, reply_value, reply_no, reply_yes, is_value}
use Rattle.seq_objects.specs.declared.counter.CounterOperation.TheVariants.{Increment}
use Rattle.seq_objects.specs.declared.cas_register.CasRegisterOperation.{CasRegisterOperation}
use Rattle.seq_objects.specs.declared.cas_register.CasRegisterOperation.TheVariants.{Write, Read, CompareAndSet}
use Rattle.seq_objects.specs.declared.map.MapOperation.{MapOperation}
use Rattle.seq_objects.specs.declared.map.MapOperation.TheVariants.{Put, Get, Delete}
use Rattle.seq_objects.specs.Words as words
use Rattle.seq_objects.specs.Words.{is_operation_of, code_of, extra_of, has_arguments}
use Rattle.seq_objects.specs.Items.{first_or_zero, first_taken, last_taken, inserted, place_of}
use Rattle.seq_objects.specs.CounterSteps.{counter_after}
use Rattle.seq_objects.specs.IntSetSteps.{added, taken_out, removed}
use Rattle.seq_objects.specs.CasRegisterSteps.{cas_register_operation, compared_and_set}
use Rattle.seq_objects.specs.MapSteps.{map_operation, item_of, key_of, place_of_key, put_at, put_in, value_at, without}

-- the step is read-only with this reply: it changes no list at which it has it
abbrev pub LeavesBy : (List ℕ → List ℕ × ℕ) → ℕ → Type 0
LeavesBy step reply = (list : List ℕ) → (step list).1 ≡ reply → (step list).0 ≡ list

-- there is a list that the step changes with this reply
abbrev pub Changes : (List ℕ → List ℕ × ℕ) → ℕ → Type 0
Changes step reply = (list : List ℕ) × ((step list).1 ≡ reply) × ((step list).0 ≡ list → ⊥)

-- a test answers whether a step is read-only with a reply, where its answer yes means that the step
-- is, and its answer no that the step changes some list at which it has this reply
pub tells_read_only : (test : Bool) (step : List ℕ → List ℕ × ℕ) (reply : ℕ)
    → (test ≡ true → LeavesBy step reply) → (test ≡ false → Changes step reply) → IsTrue test
    ↔ LeavesBy step reply
tells_read_only test step reply on off = (
  on,
  λ leaves. true_from_ne_false test
      (λ fails. let change = off fails in change.2 (leaves change.0 change.1)),
)

no_test : (a b : ℕ) → not (a == b) ≡ true → a ≡ b → ⊥
no_test a b test same = absurd (true≢false (sym test ∙ ap not (eq-eqb a b same)))

yes_test : (a b : ℕ) → not (a == b) ≡ false → a ≡ b
yes_test a b test = elim (cases_Bool (a == b)) [
  | inl same ↦ eqb-true a b same
  | inr other ↦ absurd (true≢false (sym (ap not other) ∙ test))
]

-- a step is read-only with each reply but one
pub leaves_but_with : (step : List ℕ → List ℕ × ℕ) (changing reply : ℕ)
    → ((list : List ℕ) → ((step list).1 ≡ changing) ⊎ ((step list).0 ≡ list))
    → Changes step changing
    → IsTrue (not (reply == changing)) ↔ LeavesBy step reply
leaves_but_with step changing reply either change =
    tells_read_only (not (reply == changing)) step reply
    (λ other list replied. elim (either list) as (λ _. (step list).0 ≡ list) [
      | inl same ↦ absurd (no_test reply changing other (sym replied ∙ same))
      | inr left ↦ left
    ])
    (λ same. subst (λ r. Changes step r) (sym (yes_test reply changing same)) change)

-- a step is read-only with each reply that gives no value
pub leaves_without_value : (step : List ℕ → List ℕ × ℕ) (reply : ℕ) (valued : Bool)
    → valued ≡ is_value reply
    → ((list : List ℕ) → ((step list).1 / 2 ^ 32 ≡ 2) ⊎ ((step list).0 ≡ list))
    → ((v : ℕ) → v < 2 ^ 32 → Changes step (reply_value v))
    → IsTrue (not valued) ↔ LeavesBy step reply
leaves_without_value step reply valued e either change =
    tells_read_only (not valued) step reply
    (λ other list replied. elim (either list) as (λ _. (step list).0 ≡ list) [
      | inl value ↦ absurd (no_test (reply / 2 ^ 32) 2 (sym (ap not e) ∙ other)
          (ap (λ (r : ℕ). r / 2 ^ 32) (sym replied) ∙ value))
      | inr left ↦ left
    ])
    (λ same.
    let tag : reply / 2 ^ 32 ≡ 2 = yes_test (reply / 2 ^ 32) 2 (sym (ap not e) ∙ same) in
    subst (λ r. Changes step r) {x = reply_value (reply % 2 ^ 32)} {y = reply} (omega (arith, tag))
    (change (reply % 2 ^ 32) (omega arith)))

-- a reply that gives a value has the tag of one
pub value_tag : (v : ℕ) → reply_value v / 2 ^ 32 ≡ 2
value_tag v = omega arith

taken_first : (list : List ℕ) → ((first_taken list).1 / 2 ^ 32 ≡ 2) ⊎ ((first_taken list).0 ≡ list)
taken_first [] = inr refl
taken_first (x ∷ rest) = inl (value_tag x)

-- taking the first item is read-only with a reply that gives no value
pub first_taken_leaves : (reply : ℕ) (valued : Bool) → valued ≡ is_value reply → IsTrue (not valued)
    ↔ LeavesBy first_taken reply
first_taken_leaves reply valued e =
    leaves_without_value first_taken reply valued e taken_first
    (λ v small. (v ∷ [], refl, λ same. omega (arith, ap length same)))

taken_last : (list : List ℕ) → ((last_taken list).1 / 2 ^ 32 ≡ 2) ⊎ ((last_taken list).0 ≡ list)
taken_last [] = inr refl
taken_last (x ∷ rest) = inl (value_tag (slice_index (x ∷ rest) (length rest)))

-- taking the last item is read-only with a reply that gives no value
pub last_taken_leaves : (reply : ℕ) (valued : Bool) → valued ≡ is_value reply → IsTrue (not valued)
    ↔ LeavesBy last_taken reply
last_taken_leaves reply valued e =
    leaves_without_value last_taken reply valued e taken_last
    (λ v small. (v ∷ [], refl, λ same. omega (arith, ap length same)))

-- counting is read-only with a reply that gives no count, since it never has such a reply
pub counted_leaves : (reply : ℕ) (valued : Bool) → valued ≡ is_value reply → IsTrue (not valued)
    ↔ LeavesBy (λ list. counter_after list (Some Increment)) reply
counted_leaves reply valued e =
    leaves_without_value (λ list. counter_after list (Some Increment)) reply valued e
    (λ list. inl (value_tag (first_or_zero list)))
    (λ v small. (v ∷ v ∷ [], refl, λ same. omega (arith, ap length same)))

taken_out_either : (list : List ℕ) (place : Option ℕ) → (value_at list place / 2 ^ 32 ≡ 2)
    ⊎ (without list place ≡ list)
taken_out_either list (Some place) = inl (value_tag (slice_index list place))
taken_out_either list None = inr refl

-- in a list of one item that passes, the first item that passes is at place 0
pub position-one : {X : Type 0} (p : X → Bool) (x : X) → p x ≡ true → position p (x ∷ []) ≡ Some 0
position-one p x passes = ap (λ (b : Bool). if nat_lt (if not b then 1 else 0) 1
    then Some (if not b then 1 else 0) else None) passes

pub key_place : (key v : ℕ) → v < 2 ^ 32 → place_of_key (item_of key v ∷ []) key ≡ Some 0
key_place key v small = position-one (λ item. key_of item == key) (item_of key v)
    (eq-eqb (key_of (item_of key v)) key (omega (arith, small)))

-- deleting is read-only with a reply that gives no value
pub deleted_leaves : (key reply : ℕ) (valued : Bool) → valued ≡ is_value reply
    → IsTrue (not valued) ↔ LeavesBy
    (λ list. (without list (place_of_key list key), value_at list (place_of_key list key))) reply
deleted_leaves key reply valued e =
    leaves_without_value
    (λ list. (without list (place_of_key list key), value_at list (place_of_key list key)))
    reply valued e
    (λ list. taken_out_either list (place_of_key list key))
    (λ v small.
    let list : List ℕ = item_of key v ∷ [] in
    let there = key_place key v small in
    let value : reply_value (item_of key v) ≡ reply_value v = omega (arith, small) in (
      list,
      ap (value_at list) there ∙ value,
      λ same. omega (arith, ap length (sym (ap (without list) there) ∙ same)),
    ))

-- adding is read-only with each reply but yes
pub added_leaves : (value reply : ℕ) → IsTrue (not (reply == reply_yes))
    ↔ LeavesBy (λ list. added list value) reply
added_leaves value reply =
    leaves_but_with (λ list. added list value) reply_yes reply
    (λ list. cond_both {A = List ℕ × ℕ} (is_some (place_of list value)) (list, reply_no)
    (inserted list value, reply_yes)
    (λ next. (next.1 ≡ reply_yes) ⊎ (next.0 ≡ list)) (λ there. inr refl) (λ absent. inl refl))
    ([], refl, λ same. omega (arith, ap length same))

removed_either : (list : List ℕ) (place : Option ℕ) → ((taken_out list place).1 ≡ reply_yes)
    ⊎ ((taken_out list place).0 ≡ list)
removed_either list (Some place) = inl refl
removed_either list None = inr refl

-- removing is read-only with each reply but yes
pub removed_leaves : (value reply : ℕ) → IsTrue (not (reply == reply_yes))
    ↔ LeavesBy (λ list. removed list value) reply
removed_leaves value reply =
    let list : List ℕ = value ∷ [] in
    let there : place_of list value ≡ Some 0 =
    position-one (λ x. x == value) value (eq-eqb value value refl) in
    leaves_but_with (λ list. removed list value) reply_yes reply
    (λ list. removed_either list (place_of list value)) (
      list,
      ap (λ place. (taken_out list place).1) there,
      λ same. omega (arith, ap length (sym (ap (λ place. (taken_out list place).0) there) ∙ same)),
    )

-- comparing and setting is read-only with each reply but yes
pub compared_and_set_leaves : (expected new reply : ℕ) → expected < 2 ^ 32
    → IsTrue (not (reply == reply_yes))
    ↔ LeavesBy (λ list. compared_and_set list expected new) reply
compared_and_set_leaves expected new reply small =
    let list : List ℕ = expected ∷ 0 ∷ [] in
    let there : (expected % 2 ^ 32 == expected) ≡ true =
    eq-eqb (expected % 2 ^ 32) expected (omega (arith, small)) in
    let set = cond-true {A = List ℕ × ℕ} (expected % 2 ^ 32 == expected) (new ∷ [], reply_yes)
    (list, reply_no) there in
    leaves_but_with (λ list. compared_and_set list expected new) reply_yes reply
    (λ list. cond_both {A = List ℕ × ℕ} (first_or_zero list % 2 ^ 32 == expected)
    (new ∷ [], reply_yes) (list, reply_no)
    (λ next. (next.1 ≡ reply_yes) ⊎ (next.0 ≡ list)) (λ same. inl refl) (λ other. inr refl)) (
      list,
      ap (λ (next : List ℕ × ℕ). next.1) set,
      λ same. omega (arith, ap length (sym (ap (λ (next : List ℕ × ℕ). next.0) set) ∙ same)),
    )

abbrev expected_in : Option CasRegisterOperation → ℕ
expected_in (Some (CompareAndSet expected new)) = expected
expected_in (Some (Write value)) = 0
expected_in (Some Read) = 0
expected_in None = 0

-- the value that an operation expects is below 2 ^ 32
pub expected_is_small : (word expected new : ℕ)
    → cas_register_operation word ≡ Some (CompareAndSet expected new) → expected < 2 ^ 32
expected_is_small word expected new asked =
    let IsSmall : Option CasRegisterOperation → Type 0 = λ o. expected_in o < 2 ^ 32 in
    subst IsSmall asked
    (cond_both {A = Option CasRegisterOperation} (is_operation_of word words.write) _ _ IsSmall
    (λ write. omega arith)
    (λ _. cond_both {A = Option CasRegisterOperation} (is_operation_of word words.read) _ _ IsSmall
    (λ read. omega arith)
    (λ _. cond_both {A = Option CasRegisterOperation} (is_operation_of word words.cas) _ _ IsSmall
    (λ cas. omega arith) (λ other. omega arith))))

abbrev value_in : Option MapOperation → ℕ
value_in (Some (Put key value)) = value
value_in (Some (Get key)) = 0
value_in (Some (Delete key)) = 0
value_in None = 0

-- the value that an operation puts is below 2 ^ 32
pub value_is_small : (word key value : ℕ) → map_operation word ≡ Some (Put key value)
    → value < 2 ^ 32
value_is_small word key value asked =
    let IsSmall : Option MapOperation → Type 0 = λ o. value_in o < 2 ^ 32 in
    subst IsSmall asked
    (cond_both {A = Option MapOperation} (is_operation_of word words.put) _ _ IsSmall
    (λ put. ltb-true (extra_of word) (2 ^ 32)
    (and_parts (code_of word == words.put.code) (has_arguments words.put.arity word) put).1)
    (λ _. cond_both {A = Option MapOperation} (is_operation_of word words.get) _ _ IsSmall
    (λ get. omega arith)
    (λ _. cond_both {A = Option MapOperation} (is_operation_of word words.del) _ _ IsSmall
    (λ del. omega arith) (λ other. omega arith))))

-- a put with the value that the key had doesn't change the list
put_at_same : (list : List ℕ) (key value : ℕ) (place : Option ℕ) → value < 2 ^ 32
    → place_of_key list key ≡ place → (put_at list (item_of key value) place).1 ≡ reply_value value
    → (put_at list (item_of key value) place).0 ≡ list
put_at_same list key value None small at replied = absurd (omega (arith, replied))
put_at_same list key value (Some place) small at replied =
    let item : ℕ = get_or list place 0 in
    let found = position-Some (λ item. key_of item == key) list place 0 at in
    let same : item_of key value ≡ item =
    omega (arith, small, replied, eqb-true (key_of item) key found.1) in
    ap (set list place) same ∙ set-get_or list place 0

pub put_at_tag : (list : List ℕ) (item : ℕ) (place : Option ℕ)
    → ((put_at list item place).1 ≡ reply_none) ⊎ ((put_at list item place).1 / 2 ^ 32 ≡ 2)
put_at_tag list item (Some place) = inr (value_tag (slice_index list place))
put_at_tag list item None = inl refl

-- a put is read-only with the reply that gives the value that it puts
pub put_with_its_value_leaves : (key value reply : ℕ) → value < 2 ^ 32 → reply ≡ reply_value value
    → LeavesBy (λ list. put_in list key value) reply
put_with_its_value_leaves key value reply small e list replied =
    put_at_same list key value (place_of_key list key) small refl (replied ∙ e)

-- no put has a reply that gives no value but is not the one for none
pub put_without_reply_leaves : (key value reply : ℕ) → (reply ≡ reply_none → ⊥)
    → (reply / 2 ^ 32 ≡ 2 → ⊥) → LeavesBy (λ list. put_in list key value) reply
put_without_reply_leaves key value reply not_none not_value list replied =
    elim (put_at_tag list (item_of key value) (place_of_key list key)) [
      | inl none ↦ absurd (not_none (sym replied ∙ none))
      | inr tag ↦ absurd (not_value (ap (λ (r : ℕ). r / 2 ^ 32) (sym replied) ∙ tag))
    ]

-- a put that replies none changes the list without items
pub put_first_changes : (key value : ℕ) → Changes (λ list. put_in list key value) reply_none
put_first_changes key value = ([], refl, λ same. omega (arith, ap length same))

-- a put that replies another value than it puts changes a list
pub put_another_changes : (key value reply : ℕ) → value < 2 ^ 32 → reply / 2 ^ 32 ≡ 2
    → (reply ≡ reply_value value → ⊥) → Changes (λ list. put_in list key value) reply
put_another_changes key value reply small tag other =
    let old : ℕ = reply % 2 ^ 32 in
    let list : List ℕ = item_of key old ∷ [] in
    let there = key_place key old (omega arith) in
    let replied : reply_value (item_of key old) ≡ reply = omega (arith, tag) in (
      list,
      ap (λ place. (put_at list (item_of key value) place).1) there ∙ replied,
      λ same.
          let items : item_of key value ∷ [] ≡ list =
          sym (ap (λ place. (put_at list (item_of key value) place).0) there) ∙ same in
          let item : item_of key value ≡ item_of key old =
          ap (λ (xs : List ℕ). get_or xs 0 0) items in
          other (omega (arith, item, tag, small)),
    )
