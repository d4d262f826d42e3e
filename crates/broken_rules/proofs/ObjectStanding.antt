-- A set holds the values of which an add stands, each once.
use Rattle.std.proofs.Common.{◌≡◌, ◌≢◌, ℕ, ◌+◌, ◌<◌, ◌≤◌, ◌⊎◌, zero, suc, Bool, true, false, ◌==◌, ◌&&◌, List, [], ◌∷◌, ◌++◌, length, get_or, insert, remove, Option, Some, None, is_some, nat_lt, if◌then◌else◌, refl, sym, ap, ◌∙◌, inl, inr, arith}
use Rattle.std.specs.List.{position_or_len}
use Rattle.std.proofs.lemmas.Bool.{cases_Bool, cases_eq, cond-true, cond-false, and_parts, and_from, both_ways, eqb-true, eq-eqb, ne_eqb, ltb-false}
use Rattle.std.proofs.lemmas.Option.{slice_get-get_or}
use Rattle.std.proofs.lemmas.List.Quantifiers.{position-Some}
use Rattle.std.proofs.lemmas.List.Sums.{fails_before_first}
use Rattle.list_laws.proofs.Options.{cases_Option}
use Rattle.book_base.specs.Reaching.{list_after_run}
use Rattle.legal_orders.specs.Container.{one_if, times}
use Rattle.legal_orders.proofs.Counting.{times-stands}
use Rattle.seq_objects.specs.Words as words
use Rattle.seq_objects.specs.Words.{OperationEntry, argument_of, is_operation_of}
use Rattle.seq_objects.specs.Replies.{reply_no, reply_yes}
use Rattle.seq_objects.specs.Items.{place_of, place_for, inserted}
use Rattle.seq_objects.specs.IntSetSteps.{added, taken_out, removed, set_operation, set_after}
use Rattle.seq_objects.specs.Objects.{kind_next}
use Rattle.broken_rules.specs.Runs.{NonePass, does, does_with}
use Rattle.broken_rules.specs.SetRuns.{AddStands, SaysWhether, HasTells, AddTells, RemoveTells}
use Rattle.broken_rules.proofs.Stepping.{replied, apart}

abbrev next : List ℕ → ℕ → List ℕ × ℕ
next list word = set_after list (set_operation word)

-- ---- how often a value is in a list

pub times-insert : (v x : ℕ) (xs : List ℕ) (i : ℕ) → times v (insert xs i x) ≡ times v (x ∷ xs)
times-insert v x [] zero = refl
times-insert v x [] (suc i) = refl
times-insert v x (y ∷ xs) zero = refl
times-insert v x (y ∷ xs) (suc i) = omega (arith, times-insert v x xs i)

pub times-remove : (v : ℕ) (xs : List ℕ) (i : ℕ) → i < length xs
    → times v xs ≡ one_if (get_or xs i 0 == v) + times v (remove xs i)
times-remove v [] i inside = absurd (omega arith)
times-remove v (x ∷ xs) zero inside = refl
times-remove v (x ∷ xs) (suc i) inside = omega (arith, times-remove v xs i (omega arith))

times-nowhere : (v : ℕ) (xs : List ℕ) → ((k : ℕ) → k < length xs → (get_or xs k 0 == v) ≡ false)
    → times v xs ≡ 0
times-nowhere v [] none = refl
times-nowhere v (x ∷ xs) none =
    omega (
      arith,
      ap one_if (none 0 (omega arith)),
      times-nowhere v xs (λ k inside. none (suc k) (omega arith)),
    )

-- a value without a place isn't in the list
times-unplaced : (v : ℕ) (xs : List ℕ) → place_of xs v ≡ None → times v xs ≡ 0
times-unplaced v xs none =
    let p : ℕ → Bool = λ x. x == v in
    let n : ℕ = position_or_len p xs in
    let past : nat_lt n (length xs) ≡ false = elim (cases_Bool (nat_lt n (length xs))) [
      | inl inside ↦
          absurd (cc (sym (cond-true (nat_lt n (length xs)) (Some n) None inside) ∙ none))
      | inr past ↦ past
    ] in
    times-nowhere v xs
    (λ k inside. fails_before_first p xs k 0 (omega (arith, ltb-false n (length xs) past)))

pub times-placed : (v : ℕ) (xs : List ℕ) (i : ℕ) → place_of xs v ≡ Some i → (i < length xs)
    × (get_or xs i 0 ≡ v)
times-placed v xs i at =
    let first = position-Some (λ x. x == v) xs i 0 at in
    (first.0, eqb-true (get_or xs i 0) v first.1)

-- a value has a place exactly where it is in the list
pub is_there : (v : ℕ) (xs : List ℕ) → ((is_some (place_of xs v) ≡ true) × (1 ≤ times v xs))
    ⊎ ((is_some (place_of xs v) ≡ false) × (times v xs ≡ 0))
is_there v xs = elim (cases_Option (place_of xs v)) [
  | inl none ↦ inr (ap is_some none, times-unplaced v xs none)
  | inr some ↦
      let first = times-placed v xs some.0 some.1 in
      inl (
        ap is_some some.1,
        times-stands v xs some.0 (slice_get-get_or xs some.0 0 first.0 ∙ ap Some first.1),
      )
]

added_same : (v : ℕ) (xs : List ℕ) → times v xs ≤ 1 → times v (added xs v).0 ≡ 1
added_same v xs once = elim (is_there v xs) [
  | inl there ↦
      let list : (added xs v).0 ≡ xs = ap (λ (r : List ℕ × ℕ). r.0)
      (cond-true (is_some (place_of xs v)) (xs, reply_no) (inserted xs v, reply_yes) there.0) in
      omega (arith, ap (times v) list, there.1)
  | inr absent ↦
      let list : (added xs v).0 ≡ inserted xs v = ap (λ (r : List ℕ × ℕ). r.0)
      (cond-false (is_some (place_of xs v)) (xs, reply_no) (inserted xs v, reply_yes) absent.0) in
      omega (
        arith,
        ap (times v) list,
        times-insert v v xs (place_for xs v),
        absent.1,
        ap one_if (eq-eqb v v refl),
      )
]

pub added_other : (w v : ℕ) (xs : List ℕ) → w ≢ v → times v (added xs w).0 ≡ times v xs
added_other w v xs other = elim (cases_Bool (is_some (place_of xs w))) [
  | inl there ↦ ap (λ (r : List ℕ × ℕ). times v r.0)
      (cond-true (is_some (place_of xs w)) (xs, reply_no) (inserted xs w, reply_yes) there)
  | inr absent ↦
      let list : (added xs w).0 ≡ inserted xs w = ap (λ (r : List ℕ × ℕ). r.0)
      (cond-false (is_some (place_of xs w)) (xs, reply_no) (inserted xs w, reply_yes) absent) in
      omega
      (arith, ap (times v) list, times-insert v w xs (place_for xs w), ap one_if (ne_eqb w v other))
]

removed_same : (v : ℕ) (xs : List ℕ) → times v xs ≤ 1 → times v (removed xs v).0 ≡ 0
removed_same v xs once = elim (cases_Option (place_of xs v)) [
  | inl none ↦ ap (λ (o : Option ℕ). times v (taken_out xs o).0) none ∙ times-unplaced v xs none
  | inr some ↦
      let first = times-placed v xs some.0 some.1 in
      let list : times v (removed xs v).0 ≡ times v (remove xs some.0) =
      ap (λ (o : Option ℕ). times v (taken_out xs o).0) some.1 in
      omega (
        arith,
        list,
        times-remove v xs some.0 first.0,
        ap one_if (eq-eqb (get_or xs some.0 0) v first.1),
      )
]

pub removed_other : (w v : ℕ) (xs : List ℕ) → w ≢ v → times v (removed xs w).0 ≡ times v xs
removed_other w v xs other = elim (cases_Option (place_of xs w)) [
  | inl none ↦ ap (λ (o : Option ℕ). times v (taken_out xs o).0) none
  | inr some ↦
      let first = times-placed w xs some.0 some.1 in
      let list : times v (removed xs w).0 ≡ times v (remove xs some.0) =
      ap (λ (o : Option ℕ). times v (taken_out xs o).0) some.1 in
      omega (
        arith,
        list,
        times-remove v xs some.0 first.0,
        ap one_if (ne_eqb (get_or xs some.0 0) v (λ same. other (sym first.1 ∙ same))),
      )
]

-- ---- the step of each operation

pub after_add : (list : List ℕ) (word : ℕ) → is_operation_of word words.add ≡ true
    → next list word ≡ added list (argument_of word)
after_add list word is = ap (set_after list) (cond-true (is_operation_of word words.add) _ _ is)

pub after_remove : (list : List ℕ) (word : ℕ) → is_operation_of word words.remove ≡ true
    → next list word ≡ removed list (argument_of word)
after_remove list word is =
    ap (set_after list)
    (cond-false (is_operation_of word words.add) _ _
    (apart word words.remove words.add (omega arith) is)
    ∙ cond-true (is_operation_of word words.remove) _ _ is)

pub after_has : (list : List ℕ) (word : ℕ) → is_operation_of word words.has ≡ true
    → next list word
    ≡ (list, if is_some (place_of list (argument_of word)) then reply_yes else reply_no)
after_has list word is =
    ap (set_after list)
    (cond-false (is_operation_of word words.add) _ _
    (apart word words.has words.add (omega arith) is)
    ∙ cond-false (is_operation_of word words.remove) _ _
    (apart word words.has words.remove (omega arith) is)
    ∙ cond-true (is_operation_of word words.has) _ _ is)

leaves : (list : List ℕ) (word : ℕ) → is_operation_of word words.add ≡ false
    → is_operation_of word words.remove ≡ false → (next list word).0 ≡ list
leaves list word not_add not_remove = elim (cases_Bool (is_operation_of word words.has)) [
  | inl has ↦ ap (λ (r : List ℕ × ℕ). r.0) (after_has list word has)
  | inr none ↦
      ap (λ (r : List ℕ × ℕ). r.0)
      (ap (set_after list)
      (cond-false (is_operation_of word words.add) _ _ not_add
      ∙ cond-false (is_operation_of word words.remove) _ _ not_remove
      ∙ cond-false (is_operation_of word words.has) _ _ none))
]

-- ---- whether an add stands

with_parts : (entry : OperationEntry) (v : ℕ) (step : ℕ × ℕ) → does_with entry v step ≡ true
    → (does entry step ≡ true) × (argument_of step.0 ≡ v)
with_parts entry v step e =
    let parts = and_parts (does entry step) (argument_of step.0 == v) e in
    (parts.0, eqb-true (argument_of step.0) v parts.1)

with_both : (entry : OperationEntry) (v : ℕ) (step : ℕ × ℕ) → does entry step ≡ true
    → argument_of step.0 ≡ v
    → does_with entry v step ≡ true
with_both entry v step is same =
    and_from (does entry step) (argument_of step.0 == v) is (eq-eqb (argument_of step.0) v same)

without_entry : (entry : OperationEntry) (v : ℕ) (step : ℕ × ℕ) → does entry step ≡ false
    → does_with entry v step ≡ false
without_entry entry v step other = ap (λ t. t && (argument_of step.0 == v)) other

without_value : (entry : OperationEntry) (v : ℕ) (step : ℕ × ℕ) → argument_of step.0 ≢ v
    → does_with entry v step ≡ false
without_value entry v step other = elim (cases_Bool (does_with entry v step)) [
  | inl is ↦ absurd (other (with_parts entry v step is).1)
  | inr not ↦ not
]

-- whether an add of a value stands after a step, by whether one stood before
abbrev told : ℕ → Bool → ℕ × ℕ → Bool
told v stood step = if does_with words.add v step then true else if does_with words.remove v step
    then false else stood

abbrev stands : ℕ → Bool → List (ℕ × ℕ) → Bool
stands v stood [] = stood
stands v stood (step ∷ steps) = stands v (told v stood step) steps

told_add : (v : ℕ) (stood : Bool) (step : ℕ × ℕ) → does_with words.add v step ≡ true
    → told v stood step ≡ true
told_add v stood step adds = cond-true (does_with words.add v step) true _ adds

told_remove : (v : ℕ) (stood : Bool) (step : ℕ × ℕ) → does_with words.add v step ≡ false
    → does_with words.remove v step ≡ true → told v stood step ≡ false
told_remove v stood step not_add removes = cond-false (does_with words.add v step) true _ not_add
    ∙ cond-true (does_with words.remove v step) false stood removes

told_else : (v : ℕ) (stood : Bool) (step : ℕ × ℕ) → does_with words.add v step ≡ false
    → does_with words.remove v step ≡ false → told v stood step ≡ stood
told_else v stood step not_add not_remove = cond-false (does_with words.add v step) true _ not_add
    ∙ cond-false (does_with words.remove v step) false stood not_remove

few : (stood : Bool) → one_if stood ≤ 1
few true = omega arith
few false = omega arith

-- after a step of the set a value is in the list just where an add of it stands
told_by : (v : ℕ) (list : List ℕ) (stood : Bool) (step : ℕ × ℕ) → times v list ≡ one_if stood
    → times v (next list step.0).0 ≡ one_if (told v stood step)
told_by v list stood step e =
    let once : times v list ≤ 1 = omega (arith, few stood) in
    elim (cases_Bool (does words.add step)) [
      | inl adds ↦
          let list_is : (next list step.0).0 ≡ (added list (argument_of step.0)).0 =
          ap (λ (r : List ℕ × ℕ). r.0) (after_add list step.0 adds) in
          elim (cases_eq (argument_of step.0) v) [
            | inl same ↦
                let one : times v (added list (argument_of step.0)).0 ≡ 1 =
                ap (λ (w : ℕ). times v (added list w).0) same ∙ added_same v list once in
                ap (times v) list_is ∙ one
                ∙ sym (ap one_if (told_add v stood step (with_both words.add v step adds same)))
            | inr other ↦
                let none = without_entry words.remove v step
                (apart step.0 words.add words.remove (omega arith) adds) in
                ap (times v) list_is ∙ added_other (argument_of step.0) v list other ∙ e ∙ sym
                (ap one_if (told_else v stood step (without_value words.add v step other) none))
          ]
      | inr no_add ↦
          let not_add = without_entry words.add v step no_add in
          elim (cases_Bool (does words.remove step)) [
            | inl removes ↦
                let list_is : (next list step.0).0 ≡ (removed list (argument_of step.0)).0 =
                ap (λ (r : List ℕ × ℕ). r.0) (after_remove list step.0 removes) in
                elim (cases_eq (argument_of step.0) v) [
                  | inl same ↦
                      let gone : times v (removed list (argument_of step.0)).0 ≡ 0 =
                      ap (λ (w : ℕ). times v (removed list w).0) same ∙ removed_same v list once in
                      ap (times v) list_is ∙ gone ∙ sym (ap one_if (told_remove v stood step not_add
                      (with_both words.remove v step removes same)))
                  | inr other ↦
                      ap (times v) list_is ∙ removed_other (argument_of step.0) v list other ∙ e
                      ∙ sym (ap one_if
                      (told_else v stood step not_add (without_value words.remove v step other)))
                ]
            | inr no_remove ↦
                ap (times v) (leaves list step.0 no_add no_remove) ∙ e ∙ sym (ap one_if
                (told_else v stood step not_add (without_entry words.remove v step no_remove)))
          ]
    ]

held : (v : ℕ) (list : List ℕ) (stood : Bool) (steps : List (ℕ × ℕ)) → times v list ≡ one_if stood
    → times v (list_after_run next list steps) ≡ one_if (stands v stood steps)
held v list stood [] e = e
held v list stood (step ∷ steps) e =
    held v (next list step.0).0 (told v stood step) steps (told_by v list stood step e)

stands-append : (v : ℕ) (stood : Bool) (a b : List (ℕ × ℕ))
    → stands v stood (a ++ b) ≡ stands v (stands v stood a) b
stands-append v stood [] b = refl
stands-append v stood (step ∷ a) b = stands-append v (told v stood step) a b

-- an add stands as long as no remove of its value follows
stays : (v : ℕ) (steps : List (ℕ × ℕ)) → NonePass (does_with words.remove v) steps
    → stands v true steps ≡ true
stays v [] none = refl
stays v (step ∷ steps) none =
    let still : told v true step ≡ true = elim (cases_Bool (does_with words.add v step)) [
      | inl adds ↦ told_add v true step adds
      | inr other ↦ told_else v true step other none.0
    ] in
    ap (λ (b : Bool). stands v b steps) still ∙ stays v steps none.1

add_stands : (v : ℕ) (steps : List (ℕ × ℕ)) → AddStands v steps → stands v false steps ≡ true
add_stands v steps h =
    ap (stands v false) h.steps_are
    ∙ stands-append v false h.before (h.add ∷ h.later)
    ∙ ap (λ (b : Bool). stands v b h.later) (told_add v (stands v false h.before) h.add h.adds)
    ∙ stays v h.later h.stays

-- where an add stands after some steps, it is one of them, or it stood before them and none of them
-- removes the value
stands_by : (v : ℕ) (stood : Bool) (steps : List (ℕ × ℕ)) → stands v stood steps ≡ true
    → AddStands v steps ⊎ ((stood ≡ true) × NonePass (does_with words.remove v) steps)
stands_by v stood [] e = inr (e, tt)
stands_by v stood (step ∷ steps) e = elim (stands_by v (told v stood step) steps e) [
  | inl found ↦ inl (record {
    before = step ∷ found.before;
    add = found.add;
    later = found.later;
    steps_are = ap (λ (ss : List (ℕ × ℕ)). step ∷ ss) found.steps_are;
    adds = found.adds;
    stays = found.stays;
  })
  | inr kept ↦ elim (cases_Bool (does_with words.add v step)) [
    | inl adds ↦ inl (record {
      before = [];
      add = step;
      later = steps;
      steps_are = refl;
      adds = adds;
      stays = kept.1;
    })
    | inr not_add ↦ elim (cases_Bool (does_with words.remove v step)) [
      | inl removes ↦
          absurd (both_ways (told v stood step) (told_remove v stood step not_add removes) kept.0)
      | inr not_remove ↦
          inr (sym (told_else v stood step not_add not_remove) ∙ kept.0, (not_remove, kept.1))
    ]
  ]
]

-- ---- the laws

abbrev list_before : List (ℕ × ℕ) → List ℕ
list_before before = list_after_run next [] before

-- an add stands just where the value has a place
place_tells : (v : ℕ) (before : List (ℕ × ℕ))
    → ((is_some (place_of (list_before before) v) ≡ true) × AddStands v before)
    ⊎ ((is_some (place_of (list_before before) v) ≡ false) × (AddStands v before → ⊥))
place_tells v before =
    let often = held v [] false before refl in
    elim (is_there v (list_before before)) [
      | inl there ↦ elim (cases_Bool (stands v false before)) [
        | inl stood ↦ elim (stands_by v false before stood) [
          | inl found ↦ inl (there.0, found)
          | inr kept ↦ absurd cc
        ]
        | inr gone ↦ absurd (omega (arith, there.1, often, ap one_if gone))
      ]
      | inr absent ↦ inr
          (absent.0, λ stood. omega (arith, absent.1, often, ap one_if (add_stands v before stood)))
    ]

yes_tells : (reply : ℕ) (test : Bool) (P : Type 0) → reply ≡ (if test then reply_yes else reply_no)
    → ((test ≡ true) × P) ⊎ ((test ≡ false) × (P → ⊥)) → SaysWhether reply P
yes_tells reply test P e (inl on) = inl (e ∙ cond-true test reply_yes reply_no on.0, on.1)
yes_tells reply test P e (inr off) = inr (e ∙ cond-false test reply_yes reply_no off.0, off.1)

no_tells : (reply : ℕ) (test : Bool) (P : Type 0) → reply ≡ (if test then reply_no else reply_yes)
    → ((test ≡ true) × P) ⊎ ((test ≡ false) × (P → ⊥)) → SaysWhether reply (P → ⊥)
no_tells reply test P e (inl on) =
    inr (e ∙ cond-true test reply_no reply_yes on.0, λ none. none on.1)
no_tells reply test P e (inr off) = inl (e ∙ cond-false test reply_no reply_yes off.0, off.1)

pub has_tells : HasTells
unfolding kind_next
has_tells before rest step value run is =
    let parts = with_parts words.has value step is in
    let list = list_before before in
    let reply : step.1 ≡ (if is_some (place_of list value) then reply_yes else reply_no)
    = sym (replied next [] before rest step run)
    ∙ ap (λ (r : List ℕ × ℕ). r.1) (after_has list step.0 parts.0)
    ∙ ap (λ (v : ℕ). if is_some (place_of list v) then reply_yes else reply_no) parts.1 in
    yes_tells step.1 (is_some (place_of list value)) (AddStands value before) reply
    (place_tells value before)

pub taken_out_tells : (list : List ℕ) (o : Option ℕ)
    → (taken_out list o).1 ≡ (if is_some o then reply_yes else reply_no)
taken_out_tells list None = refl
taken_out_tells list (Some place) = refl

pub remove_tells : RemoveTells
unfolding kind_next
remove_tells before rest step value run is =
    let parts = with_parts words.remove value step is in
    let list = list_before before in
    let reply : step.1 ≡ (if is_some (place_of list value) then reply_yes else reply_no)
    = sym (replied next [] before rest step run)
    ∙ ap (λ (r : List ℕ × ℕ). r.1) (after_remove list step.0 parts.0)
    ∙ ap (λ (v : ℕ). (removed list v).1) parts.1 ∙ taken_out_tells list (place_of list value) in
    yes_tells step.1 (is_some (place_of list value)) (AddStands value before) reply
    (place_tells value before)

pub added_tells : (list : List ℕ) (v : ℕ)
    → (added list v).1 ≡ (if is_some (place_of list v) then reply_no else reply_yes)
added_tells list v = elim (cases_Bool (is_some (place_of list v))) [
  | inl there ↦
      ap (λ (r : List ℕ × ℕ). r.1)
      (cond-true (is_some (place_of list v)) (list, reply_no) (inserted list v, reply_yes) there)
      ∙ sym (cond-true (is_some (place_of list v)) reply_no reply_yes there)
  | inr absent ↦
      ap (λ (r : List ℕ × ℕ). r.1)
      (cond-false (is_some (place_of list v)) (list, reply_no) (inserted list v, reply_yes) absent)
      ∙ sym (cond-false (is_some (place_of list v)) reply_no reply_yes absent)
]

pub add_tells : AddTells
unfolding kind_next
add_tells before rest step value run is =
    let parts = with_parts words.add value step is in
    let list = list_before before in
    let reply : step.1 ≡ (if is_some (place_of list value) then reply_no else reply_yes)
    = sym (replied next [] before rest step run)
    ∙ ap (λ (r : List ℕ × ℕ). r.1) (after_add list step.0 parts.0)
    ∙ ap (λ (v : ℕ). (added list v).1) parts.1 ∙ added_tells list value in
    no_tells step.1 (is_some (place_of list value)) (AddStands value before) reply
    (place_tells value before)
