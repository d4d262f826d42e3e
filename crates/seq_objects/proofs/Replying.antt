-- Which replies a step may have.
use Rattle.std.proofs.Common.{◌≡◌, ℕ, ◌+◌, ◌/◌, ◌%◌, ◌^◌, ◌<◌, ◌↔◌, ◌⊎◌, ◌||◌, ◌==◌, Bool, true, false, List, [], ◌∷◌, Option, Some, None, is_some, slice_index, IsTrue, if◌then◌else◌, inl, inr, refl, sym, ap, subst, ◌∙◌, arith, length}
use Rattle.std.proofs.lemmas.Bool.{cond-true, cond-false, cond_both, cases_Bool, true≢false, eqb-true, eq-eqb}
use Rattle.seq_objects.specs.Replies.{reply_none, reply_value, reply_no, reply_yes, is_value, is_value_or_none, is_yes_or_no}
use Rattle.seq_objects.specs.declared.int_set.IntSetOperation.{IntSetOperation}
use Rattle.seq_objects.specs.declared.int_set.IntSetOperation.TheVariants.{Add, Remove, Has}
use Rattle.seq_objects.specs.declared.map.MapOperation.{MapOperation}
use Rattle.seq_objects.specs.declared.map.MapOperation.TheVariants.{Put, Get, Delete}
use Rattle.seq_objects.specs.Items.{first_or_zero, first_taken, last_taken, inserted, place_of}
use Rattle.seq_objects.specs.IntSetSteps.{set_after, added, taken_out, removed}
use Rattle.seq_objects.specs.CasRegisterSteps.{compared_and_set}
use Rattle.seq_objects.specs.MapSteps.{map_after, item_of, place_of_key, put_at, value_at, without}
use Rattle.seq_objects.proofs.ReadOnly.{value_tag, position-one, key_place, put_at_tag}

-- at some list the step has this reply
abbrev pub RepliesBy : (List ℕ → List ℕ × ℕ) → ℕ → Type 0
RepliesBy step reply = (list : List ℕ) × ((step list).1 ≡ reply)

-- one of two tests passes where their disjunction does
either_test : (a b : Bool) → (a || b) ≡ true → (a ≡ true) ⊎ (b ≡ true)
either_test true b either = inl refl
either_test false b either = inr either

first_test : (a b : Bool) → a ≡ true → (a || b) ≡ true
first_test true b passes = refl
first_test false b passes = absurd (true≢false (sym passes))

second_test : (a b : Bool) → b ≡ true → (a || b) ≡ true
second_test true b passes = refl
second_test false b passes = passes

-- a step that has the same reply at each list has no other reply
pub replies_one : (step : List ℕ → List ℕ × ℕ) (given reply : ℕ)
    → ((list : List ℕ) → (step list).1 ≡ given)
    → IsTrue (reply == given) ↔ RepliesBy step reply
replies_one step given reply every = (
  λ same. ([], every [] ∙ sym (eqb-true reply given same)),
  λ replied. eq-eqb reply given (sym replied.1 ∙ every replied.0),
)

-- a reply that gives a value is the one for its value
valued_reply : (step : List ℕ → List ℕ × ℕ) (reply : ℕ) → is_value reply ≡ true
    → ((v : ℕ) → v < 2 ^ 32 → RepliesBy step (reply_value v)) → RepliesBy step reply
valued_reply step reply valued each =
    let tag : reply / 2 ^ 32 ≡ 2 = eqb-true (reply / 2 ^ 32) 2 valued in
    subst (RepliesBy step) {x = reply_value (reply % 2 ^ 32)} {y = reply} (omega (arith, tag))
    (each (reply % 2 ^ 32) (omega arith))

tagged_value : (given reply : ℕ) → given ≡ reply → given / 2 ^ 32 ≡ 2 → is_value reply ≡ true
tagged_value given reply same tag = eq-eqb (reply / 2 ^ 32) 2
    (ap (λ (r : ℕ). r / 2 ^ 32) (sym same) ∙ tag)

-- a step that always replies a value, and each value at some list, has these replies only
pub replies_value : (step : List ℕ → List ℕ × ℕ) (reply : ℕ) (test : Bool) → test ≡ is_value reply
    → ((list : List ℕ) → (step list).1 / 2 ^ 32 ≡ 2)
    → ((v : ℕ) → v < 2 ^ 32 → RepliesBy step (reply_value v))
    → IsTrue test ↔ RepliesBy step reply
replies_value step reply test e every each = (
  λ passes. valued_reply step reply (sym e ∙ passes) each,
  λ replied. e ∙ tagged_value (step replied.0).1 reply replied.1 (every replied.0),
)

-- a step that always replies none or a value, and each of these at some list, has these replies
-- only
pub replies_value_or_none : (step : List ℕ → List ℕ × ℕ) (reply : ℕ) (test : Bool)
    → test ≡ is_value_or_none reply
    → ((list : List ℕ) → ((step list).1 ≡ reply_none) ⊎ ((step list).1 / 2 ^ 32 ≡ 2))
    → RepliesBy step reply_none → ((v : ℕ) → v < 2 ^ 32 → RepliesBy step (reply_value v))
    → IsTrue test ↔ RepliesBy step reply
replies_value_or_none step reply test e every none each = (
  λ passes. elim (either_test (reply == reply_none) (is_value reply) (sym e ∙ passes)) [
    | inl same ↦ subst (RepliesBy step) (sym (eqb-true reply reply_none same)) none
    | inr valued ↦ valued_reply step reply valued each
  ],
  λ replied. e ∙ elim (every replied.0) as (λ _. is_value_or_none reply ≡ true) [
    | inl same ↦ first_test (reply == reply_none) (is_value reply)
        (eq-eqb reply reply_none (sym replied.1 ∙ same))
    | inr tag ↦ second_test (reply == reply_none) (is_value reply)
        (tagged_value (step replied.0).1 reply replied.1 tag)
  ],
)

-- a step that always replies yes or no, and each of them at some list, has these replies only
pub replies_yes_or_no : (step : List ℕ → List ℕ × ℕ) (reply : ℕ) (test : Bool)
    → test ≡ is_yes_or_no reply
    → ((list : List ℕ) → ((step list).1 ≡ reply_yes) ⊎ ((step list).1 ≡ reply_no))
    → RepliesBy step reply_yes → RepliesBy step reply_no
    → IsTrue test ↔ RepliesBy step reply
replies_yes_or_no step reply test e every with_yes with_no = (
  λ passes. elim (either_test (reply == reply_yes) (reply == reply_no) (sym e ∙ passes)) [
    | inl same ↦ subst (RepliesBy step) (sym (eqb-true reply reply_yes same)) with_yes
    | inr same ↦ subst (RepliesBy step) (sym (eqb-true reply reply_no same)) with_no
  ],
  λ replied. e ∙ elim (every replied.0) as (λ _. is_yes_or_no reply ≡ true) [
    | inl same ↦ first_test (reply == reply_yes) (reply == reply_no)
        (eq-eqb reply reply_yes (sym replied.1 ∙ same))
    | inr same ↦ second_test (reply == reply_yes) (reply == reply_no)
        (eq-eqb reply reply_no (sym replied.1 ∙ same))
  ],
)

first_tag : (list : List ℕ)
    → ((first_taken list).1 ≡ reply_none) ⊎ ((first_taken list).1 / 2 ^ 32 ≡ 2)
first_tag [] = inl refl
first_tag (x ∷ rest) = inr (value_tag x)

-- taking the first item may have any value as its reply, or none
pub first_taken_replies : (reply : ℕ) (test : Bool) → test ≡ is_value_or_none reply
    → IsTrue test ↔ RepliesBy first_taken reply
first_taken_replies reply test e = replies_value_or_none first_taken reply test e first_tag
    ([], refl) (λ v small. (v ∷ [], refl))

last_tag : (list : List ℕ)
    → ((last_taken list).1 ≡ reply_none) ⊎ ((last_taken list).1 / 2 ^ 32 ≡ 2)
last_tag [] = inl refl
last_tag (x ∷ rest) = inr (value_tag (slice_index (x ∷ rest) (length rest)))

-- taking the last item may have any value as its reply, or none
pub last_taken_replies : (reply : ℕ) (test : Bool) → test ≡ is_value_or_none reply
    → IsTrue test ↔ RepliesBy last_taken reply
last_taken_replies reply test e = replies_value_or_none last_taken reply test e last_tag
    ([], refl) (λ v small. (v ∷ [], refl))

-- a step that replies the first item may have any value as its reply
pub first_value_replies : (list_after : List ℕ → List ℕ) (reply : ℕ) (test : Bool)
    → test ≡ is_value reply
    → IsTrue test ↔ RepliesBy (λ list. (list_after list, reply_value (first_or_zero list))) reply
first_value_replies list_after reply test e =
    replies_value (λ list. (list_after list, reply_value (first_or_zero list))) reply test e
    (λ list. value_tag (first_or_zero list)) (λ v small. (v ∷ [], refl))

value_at_tag : (list : List ℕ) (place : Option ℕ)
    → (value_at list place ≡ reply_none) ⊎ (value_at list place / 2 ^ 32 ≡ 2)
value_at_tag list (Some place) = inr (value_tag (slice_index list place))
value_at_tag list None = inl refl

item_value : (key v : ℕ) → v < 2 ^ 32 → reply_value (item_of key v) ≡ reply_value v
item_value key v small = omega (arith, small)

-- a step that replies the value of a key may have any value as its reply, or none
value_at_replies : (list_after : List ℕ → List ℕ) (key reply : ℕ) (test : Bool)
    → test ≡ is_value_or_none reply
    → IsTrue test
    ↔ RepliesBy (λ list. (list_after list, value_at list (place_of_key list key))) reply
value_at_replies list_after key reply test e = replies_value_or_none
    (λ list. (list_after list, value_at list (place_of_key list key))) reply test e
    (λ list. value_at_tag list (place_of_key list key)) ([], refl)
    (λ v small. (
      item_of key v ∷ [],
      ap (value_at (item_of key v ∷ [])) (key_place key v small) ∙ item_value key v small,
    ))

-- each operation of a map may have any value as its reply, or none
pub map_replies : (operation : MapOperation) (reply : ℕ) (test : Bool)
    → test ≡ is_value_or_none reply
    → IsTrue test ↔ RepliesBy (λ list. map_after list (Some operation)) reply
map_replies (Put key value) reply test e = replies_value_or_none
    (λ list. map_after list (Some (Put key value))) reply test e
    (λ list. put_at_tag list (item_of key value) (place_of_key list key)) ([], refl)
    (λ v small. (
      item_of key v ∷ [],
      ap (λ place. (put_at (item_of key v ∷ []) (item_of key value) place).1)
          (key_place key v small) ∙ item_value key v small,
    ))
map_replies (Get key) reply test e = value_at_replies (λ list. list) key reply test e
map_replies (Delete key) reply test e =
    value_at_replies (λ list. without list (place_of_key list key)) key reply test e

-- a value is at place 0 of the list of this value alone
value_place : (value : ℕ) → place_of (value ∷ []) value ≡ Some 0
value_place value = position-one (λ x. x == value) value (eq-eqb value value refl)

taken_out_reply : (list : List ℕ) (place : Option ℕ)
    → ((taken_out list place).1 ≡ reply_yes) ⊎ ((taken_out list place).1 ≡ reply_no)
taken_out_reply list (Some place) = inl refl
taken_out_reply list None = inr refl

has_reply : (there : Bool) → ((if there then reply_yes else reply_no) ≡ reply_yes)
    ⊎ ((if there then reply_yes else reply_no) ≡ reply_no)
has_reply true = inl refl
has_reply false = inr refl

-- each operation of a set may have the replies yes and no
pub set_replies : (operation : IntSetOperation) (reply : ℕ) (test : Bool)
    → test ≡ is_yes_or_no reply
    → IsTrue test ↔ RepliesBy (λ list. set_after list (Some operation)) reply
set_replies (Add value) reply test e = replies_yes_or_no
    (λ list. added list value) reply test e
    (λ list. cond_both {A = List ℕ × ℕ} (is_some (place_of list value)) (list, reply_no)
    (inserted list value, reply_yes) (λ next. (next.1 ≡ reply_yes) ⊎ (next.1 ≡ reply_no))
    (λ there. inr refl) (λ absent. inl refl))
    ([], refl) (
      value ∷ [],
      ap (λ (next : List ℕ × ℕ). next.1) (cond-true {A = List ℕ × ℕ}
          (is_some (place_of (value ∷ []) value)) (value ∷ [], reply_no)
          (inserted (value ∷ []) value, reply_yes) (ap is_some (value_place value))),
    )
set_replies (Remove value) reply test e = replies_yes_or_no
    (λ list. removed list value) reply test e
    (λ list. taken_out_reply list (place_of list value))
    (value ∷ [], ap (λ place. (taken_out (value ∷ []) place).1) (value_place value))
    ([], refl)
set_replies (Has value) reply test e = replies_yes_or_no
    (λ list. set_after list (Some (Has value))) reply test e
    (λ list. has_reply (is_some (place_of list value)))
    (value ∷ [], ap (λ place. if is_some place then reply_yes else reply_no) (value_place value))
    ([], refl)

-- a compare-and-set may have the replies yes and no
pub compared_and_set_replies : (expected new reply : ℕ) (test : Bool) → expected < 2 ^ 32
    → test ≡ is_yes_or_no reply
    → IsTrue test ↔ RepliesBy (λ list. compared_and_set list expected new) reply
compared_and_set_replies expected new reply test small e =
    let same : (expected % 2 ^ 32 == expected) ≡ true =
    eq-eqb (expected % 2 ^ 32) expected (omega (arith, small)) in
    let other : ((expected + 1) % 2 ^ 32 == expected) ≡ false =
    elim (cases_Bool ((expected + 1) % 2 ^ 32 == expected)) [
      | inl equal ↦
          absurd (omega (arith, small, eqb-true ((expected + 1) % 2 ^ 32) expected equal))
      | inr differ ↦ differ
    ] in
    replies_yes_or_no (λ list. compared_and_set list expected new) reply test e
    (λ list. cond_both {A = List ℕ × ℕ} (first_or_zero list % 2 ^ 32 == expected)
    (new ∷ [], reply_yes) (list, reply_no)
    (λ next. (next.1 ≡ reply_yes) ⊎ (next.1 ≡ reply_no)) (λ same. inl refl) (λ other. inr refl)) (
      expected ∷ [],
      ap (λ (next : List ℕ × ℕ). next.1) (cond-true {A = List ℕ × ℕ}
          (expected % 2 ^ 32 == expected) (new ∷ [], reply_yes) (expected ∷ [], reply_no) same),
    ) (
      (expected + 1) ∷ [],
      ap (λ (next : List ℕ × ℕ). next.1) (cond-false {A = List ℕ × ℕ}
          ((expected + 1) % 2 ^ 32 == expected) (new ∷ [], reply_yes) ((expected + 1) ∷ [], reply_no)
          other),
    )
