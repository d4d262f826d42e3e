-- A priority queue gives the least value.
use Rattle.std.proofs.Common.{◌≡◌, ℕ, zero, suc, ◌+◌, ◌^◌, ◌<◌, ◌≤◌, Bool, true, false, not, ◌==◌, nat_lt, List, [], ◌∷◌, length, map, insert, Option, Some, None, unwrap_or, if◌then◌else◌, refl, sym, ap, subst, ◌∙◌, inl, inr, arith}
use Rattle.std.specs.List.{AllByRecursion, position_or_len}
use Rattle.std.proofs.lemmas.Bool.{cases_Bool, cases_eq, cond-true, cond-false, eq-eqb, ltb-true, ltb-false}
use Rattle.std.proofs.lemmas.Option.{same_Some}
use Rattle.book_base.specs.Sequential.{IsRunFrom}
use Rattle.book_base.specs.Reaching.{list_after_run}
use Rattle.legal_orders.specs.Container.{Puts, Takes, Neither, value_put, one_if, times, GivesOne, IsContainer}
use Rattle.legal_orders.proofs.Counting.{times-apart}
use Rattle.seq_objects.specs.declared.kind.Kind.TheVariants.{Pqueue}
use Rattle.seq_objects.specs.Words as words
use Rattle.seq_objects.specs.Words.{is_operation_of, argument_of}
use Rattle.seq_objects.specs.Replies.{reply_done, reply_bad, value_of, shown_value}
use Rattle.seq_objects.specs.Items.{first_taken, place_for, inserted}
use Rattle.seq_objects.specs.PqueueSteps.{pqueue_operation, pqueue_after}
use Rattle.seq_objects.specs.Objects.{kind_next}
use Rattle.broken_rules.specs.Runs.{AreDone}
use Rattle.broken_rules.specs.Removals.{put_in, given_out, pqueue_deed, pqueue_reading, GivesTheLeast, MinsGiveTheLeast, ComesOutAtMostAsOften, TakesTakeWhatWasPut}
use Rattle.broken_rules.proofs.Stepping.{replied, runs_before, apart, shown_item}
use Rattle.broken_rules.proofs.Taking.{held, takes}

abbrev next : List ℕ → ℕ → List ℕ × ℕ
next list word = pqueue_after list (pqueue_operation word)

-- ---- the step of each operation

pub after_insert : (list : List ℕ) (word : ℕ) → is_operation_of word words.insert ≡ true
    → next list word ≡ (inserted list (argument_of word), reply_done)
after_insert list word is =
    ap (pqueue_after list) (cond-true (is_operation_of word words.insert) _ _ is)

pub after_min : (list : List ℕ) (word : ℕ) → is_operation_of word words.insert ≡ false
    → is_operation_of word words.min ≡ true → next list word ≡ first_taken list
after_min list word other is =
    ap (pqueue_after list) (cond-false (is_operation_of word words.insert) _ _ other
    ∙ cond-true (is_operation_of word words.min) _ _ is)

pub after_other : (list : List ℕ) (word : ℕ) → is_operation_of word words.insert ≡ false
    → is_operation_of word words.min ≡ false → next list word ≡ (list, reply_bad)
after_other list word other none =
    ap (pqueue_after list) (cond-false (is_operation_of word words.insert) _ _ other
    ∙ cond-false (is_operation_of word words.min) _ _ none)

deed_insert : (word : ℕ) → is_operation_of word words.insert ≡ true
    → pqueue_deed word ≡ Puts (argument_of word)
deed_insert word is = cond-true (is_operation_of word words.insert) _ _ is

deed_min : (word : ℕ) → is_operation_of word words.insert ≡ false
    → is_operation_of word words.min ≡ true → pqueue_deed word ≡ Takes
deed_min word other is = cond-false (is_operation_of word words.insert) _ _ other
    ∙ cond-true (is_operation_of word words.min) _ _ is

deed_other : (word : ℕ) → is_operation_of word words.insert ≡ false
    → is_operation_of word words.min ≡ false → pqueue_deed word ≡ Neither
deed_other word other none = cond-false (is_operation_of word words.insert) _ _ other
    ∙ cond-false (is_operation_of word words.min) _ _ none

-- ---- a priority queue is a container

times-inserted : (w x : ℕ) (xs : List ℕ) (i : ℕ)
    → times w (map value_of (insert xs i x)) ≡ times w (value_of x ∷ map value_of xs)
times-inserted w x [] zero = refl
times-inserted w x [] (suc i) = refl
times-inserted w x (y ∷ xs) zero = refl
times-inserted w x (y ∷ xs) (suc i) = omega (arith, times-inserted w x xs i)

first_gives : (list : List ℕ) → GivesOne (map value_of list) (shown_value (first_taken list).1)
    (map value_of (first_taken list).0)
first_gives [] = (refl, refl)
first_gives (x ∷ rest) =
    subst (λ (o : Option ℕ). GivesOne (map value_of (x ∷ rest)) o (map value_of rest))
    (sym (shown_item x)) (λ w. refl)

same_put : (v w : ℕ) → Puts v ≡ Puts w → v ≡ w
same_put v w e = same_Some v w (ap value_put e)

no_put : (v : ℕ) → Takes ≡ Puts v → ⊥
no_put v e = cc

put_once : (list : List ℕ) (word v : ℕ) → pqueue_deed word ≡ Puts v → (w : ℕ)
    → times w (map value_of (next list word).0) ≡ times w (v ∷ map value_of list)
put_once list word v e w = elim (cases_Bool (is_operation_of word words.insert)) [
  | inl is ↦
      let same : argument_of word ≡ v =
      same_put (argument_of word) v (sym (deed_insert word is) ∙ e) in
      let value : value_of (argument_of word) ≡ v = omega (arith, same) in
      ap (λ (r : List ℕ × ℕ). times w (map value_of r.0)) (after_insert list word is)
      ∙ times-inserted w (argument_of word) list (place_for list (argument_of word))
      ∙ ap (λ (x : ℕ). times w (x ∷ map value_of list)) value
  | inr other ↦ elim (cases_Bool (is_operation_of word words.min)) [
    | inl min ↦ absurd (no_put v (sym (deed_min word other min) ∙ e))
    | inr none ↦ absurd (cc (sym (deed_other word other none) ∙ e))
  ]
]

take_one : (list : List ℕ) (word : ℕ) → pqueue_deed word ≡ Takes → GivesOne (map value_of list)
    (shown_value (next list word).1) (map value_of (next list word).0)
take_one list word e = elim (cases_Bool (is_operation_of word words.insert)) [
  | inl is ↦ absurd (cc (sym (deed_insert word is) ∙ e))
  | inr other ↦ elim (cases_Bool (is_operation_of word words.min)) [
    | inl min ↦ subst
        (λ (r : List ℕ × ℕ). GivesOne (map value_of list) (shown_value r.1) (map value_of r.0))
        (sym (after_min list word other min)) (first_gives list)
    | inr none ↦ absurd (cc (sym (deed_other word other none) ∙ e))
  ]
]

leave_all : (list : List ℕ) (word : ℕ) → pqueue_deed word ≡ Neither
    → map value_of (next list word).0 ≡ map value_of list
leave_all list word e = elim (cases_Bool (is_operation_of word words.insert)) [
  | inl is ↦ absurd (cc (sym (deed_insert word is) ∙ e))
  | inr other ↦ elim (cases_Bool (is_operation_of word words.min)) [
    | inl min ↦ absurd (cc (sym (deed_min word other min) ∙ e))
    | inr none ↦ ap (λ (r : List ℕ × ℕ). map value_of r.0) (after_other list word other none)
  ]
]

container : IsContainer pqueue_reading next
container = record { put = put_once; take = take_one; neither = leave_all }

-- ---- its list rises

abbrev Above : ℕ → List ℕ → Type 0
Above x xs = AllByRecursion (λ w. x ≤ w) xs

abbrev AreSmall : List ℕ → Type 0
AreSmall xs = AllByRecursion (λ w. w < 2 ^ 32) xs

abbrev IsRising : List ℕ → Type 0
IsRising [] = Unit {0}
IsRising (x ∷ xs) = Above x xs × IsRising xs

-- the list with a value before the first greater item
abbrev pub placed : ℕ → List ℕ → List ℕ
placed v [] = v ∷ []
placed v (x ∷ xs) = if nat_lt v x then v ∷ x ∷ xs else x ∷ placed v xs

place_within : (p : ℕ → Bool) (xs : List ℕ) → position_or_len p xs ≤ length xs
place_within p [] = omega arith
place_within p (x ∷ xs) = elim (cases_Bool (not (p x))) [
  | inl on ↦ omega (arith, cond-true (not (p x)) (1 + position_or_len p xs) 0 on, place_within p xs)
  | inr off ↦ omega (arith, cond-false (not (p x)) (1 + position_or_len p xs) 0 off)
]

place_is : (v : ℕ) (xs : List ℕ) → place_for xs v ≡ position_or_len (λ x. nat_lt v x) xs
place_is v xs =
    let n : ℕ = position_or_len (λ x. nat_lt v x) xs in
    elim (cases_Bool (nat_lt n (length xs))) [
      | inl inside ↦ ap (λ (o : Option ℕ). unwrap_or o (length xs))
          (cond-true (nat_lt n (length xs)) (Some n) None inside)
      | inr past ↦
          let le : length xs ≤ n = ltb-false n (length xs) past in
          ap (λ (o : Option ℕ). unwrap_or o (length xs))
          (cond-false (nat_lt n (length xs)) (Some n) None past)
          ∙ omega (arith, le, place_within (λ x. nat_lt v x) xs)
    ]

insert_is : (v : ℕ) (xs : List ℕ) → insert xs (position_or_len (λ x. nat_lt v x) xs) v ≡ placed v xs
insert_is v [] = refl
insert_is v (x ∷ xs) =
    let m : ℕ = position_or_len (λ x. nat_lt v x) xs in
    elim (cases_Bool (nat_lt v x)) [
      | inl less ↦
          ap (λ (i : ℕ). insert (x ∷ xs) i v)
          (cond-false (not (nat_lt v x)) (1 + m) 0 (ap not less))
          ∙ sym (cond-true (nat_lt v x) (v ∷ x ∷ xs) (x ∷ placed v xs) less)
      | inr ge ↦
          let next_place : position_or_len (λ x. nat_lt v x) (x ∷ xs) ≡ suc m =
          cond-true (not (nat_lt v x)) (1 + m) 0 (ap not ge) ∙ omega arith in
          ap (λ (i : ℕ). insert (x ∷ xs) i v) next_place ∙ ap (λ (ys : List ℕ). x ∷ ys)
          (insert_is v xs) ∙ sym (cond-false (nat_lt v x) (v ∷ x ∷ xs) (x ∷ placed v xs) ge)
    ]

pub inserted_is : (v : ℕ) (xs : List ℕ) → inserted xs v ≡ placed v xs
inserted_is v xs = ap (λ (i : ℕ). insert xs i v) (place_is v xs) ∙ insert_is v xs

above_placed : (x v : ℕ) (xs : List ℕ) → x ≤ v → Above x xs → Above x (placed v xs)
above_placed x v [] le all = (le, tt)
above_placed x v (y ∷ ys) le all = elim (cases_Bool (nat_lt v y)) [
  | inl less ↦
      subst (Above x) (sym (cond-true (nat_lt v y) (v ∷ y ∷ ys) (y ∷ placed v ys) less)) (le, all)
  | inr ge ↦ subst (Above x) (sym (cond-false (nat_lt v y) (v ∷ y ∷ ys) (y ∷ placed v ys) ge))
      (all.0, above_placed x v ys le all.1)
]

above_less : (v x : ℕ) (xs : List ℕ) → v ≤ x → Above x xs → Above v xs
above_less v x [] le all = tt
above_less v x (y ∷ ys) le all =
    (let here : x ≤ y = all.0 in omega arith, above_less v x ys le all.1)

rising_placed : (v : ℕ) (xs : List ℕ) → IsRising xs → IsRising (placed v xs)
rising_placed v [] rising = (tt, tt)
rising_placed v (x ∷ xs) rising = elim (cases_Bool (nat_lt v x)) [
  | inl less ↦
      let le : v ≤ x = omega (arith, ltb-true v x less) in
      subst IsRising (sym (cond-true (nat_lt v x) (v ∷ x ∷ xs) (x ∷ placed v xs) less))
      ((le, above_less v x xs le rising.0), rising)
  | inr ge ↦
      subst IsRising (sym (cond-false (nat_lt v x) (v ∷ x ∷ xs) (x ∷ placed v xs) ge))
      (above_placed x v xs (ltb-false v x ge) rising.0, rising_placed v xs rising.1)
]

small_placed : (v : ℕ) (xs : List ℕ) → v < 2 ^ 32 → AreSmall xs → AreSmall (placed v xs)
small_placed v [] small all = (small, tt)
small_placed v (x ∷ xs) small all = elim (cases_Bool (nat_lt v x)) [
  | inl less ↦
      subst AreSmall (sym (cond-true (nat_lt v x) (v ∷ x ∷ xs) (x ∷ placed v xs) less)) (small, all)
  | inr ge ↦ subst AreSmall (sym (cond-false (nat_lt v x) (v ∷ x ∷ xs) (x ∷ placed v xs) ge))
      (all.0, small_placed v xs small all.1)
]

record IsKept (list : List ℕ) : Type 0 where
  pub rising : IsRising list
  pub small : AreSmall list

kept_first : (list : List ℕ) → IsKept list → IsKept (first_taken list).0
kept_first [] kept = kept
kept_first (x ∷ rest) kept = record { rising = kept.rising.1; small = kept.small.1 }

kept_step : (list : List ℕ) (word : ℕ) → IsKept list → IsKept (next list word).0
kept_step list word kept = elim (cases_Bool (is_operation_of word words.insert)) [
  | inl is ↦
      let v : ℕ = argument_of word in
      let same : (next list word).0 ≡ placed v list =
      ap (λ (r : List ℕ × ℕ). r.0) (after_insert list word is) ∙ inserted_is v list in
      subst IsKept (sym same) (record {
        rising = rising_placed v list kept.rising;
        small = small_placed v list (omega arith) kept.small;
      })
  | inr other ↦ elim (cases_Bool (is_operation_of word words.min)) [
    | inl min ↦ subst (λ (r : List ℕ × ℕ). IsKept r.0) (sym (after_min list word other min))
        (kept_first list kept)
    | inr none ↦
        subst (λ (r : List ℕ × ℕ). IsKept r.0) (sym (after_other list word other none)) kept
  ]
]

kept_after : (list : List ℕ) (steps : List (ℕ × ℕ)) → IsKept list
    → IsKept (list_after_run next list steps)
kept_after list [] kept = kept
kept_after list (step ∷ steps) kept =
    kept_after (next list step.0).0 steps (kept_step list step.0 kept)

-- ---- its first item is the least

least_value : (x : ℕ) (xs : List ℕ) → Above x xs → AreSmall xs → (w : ℕ)
    → 1 ≤ times w (map value_of xs) → x ≤ w
least_value x [] above small w some = absurd (omega arith)
least_value x (y ∷ ys) above small w some =
    let here : x ≤ y = above.0 in
    let value : value_of y ≡ y = let less : y < 2 ^ 32 = small.0 in omega arith in
    elim (cases_eq (value_of y) w) [
      | inl same ↦ omega arith
      | inr other ↦ least_value x ys above.1 small.1 w
          (omega (arith, times-apart w (value_of y) (map value_of ys) other))
    ]

-- each value was put in as often as it was given out and is still in the list together
often : (steps : List (ℕ × ℕ)) → IsRunFrom next [] steps → (w : ℕ)
    → times w (put_in pqueue_reading steps) ≡ times w (given_out pqueue_reading steps)
    + times w (map value_of (list_after_run next [] steps))
often steps run w = held pqueue_reading next container [] refl steps run w

first_is_least : (before : List (ℕ × ℕ)) (list : List ℕ) → IsKept list
    → ((w : ℕ) → times w (put_in pqueue_reading before) ≡ times w (given_out pqueue_reading before)
    + times w (map value_of list)) → GivesTheLeast before (first_taken list).1
first_is_least before [] kept count = inl (refl, λ v inside. omega (arith, inside, count v))
first_is_least before (x ∷ rest) kept count =
    let less : x < 2 ^ 32 = kept.small.0 in
    let value : value_of x ≡ x = omega arith in
    let once : one_if (value_of x == x) ≡ 1 = ap one_if (eq-eqb (value_of x) x value) in
    let le : x ≤ x = omega arith in
    inr (
      x,
      refl,
      record {
        inside = omega (arith, count x, once);
        least = λ other inside. least_value x (x ∷ rest) (le, kept.rising.0) kept.small other
            (omega (arith, count other, inside));
        small = less;
      },
    )

pub mins_give_the_least : MinsGiveTheLeast
unfolding kind_next
mins_give_the_least before rest step run is =
    let list : List ℕ = list_after_run next [] before in
    let other = apart step.0 words.min words.insert (omega arith) is in
    let reply : (first_taken list).1 ≡ step.1 = ap (λ (r : List ℕ × ℕ). r.1)
    (sym (after_min list step.0 other is)) ∙ replied next [] before rest step run in
    subst (GivesTheLeast before) reply
    (first_is_least before list (kept_after [] before (record { rising = tt; small = tt }))
    (often before (runs_before next [] before (step ∷ rest) run)))

pub comes_out_at_most_as_often : ComesOutAtMostAsOften
unfolding kind_next
comes_out_at_most_as_often steps value run = omega (arith, often steps run value)

pub pqueues_take_what_was_put : TakesTakeWhatWasPut Pqueue pqueue_reading
unfolding kind_next
pqueues_take_what_was_put = takes pqueue_reading next container [] refl

pub inserts_are_done : AreDone Pqueue words.insert
unfolding kind_next
inserts_are_done before rest step run is =
    let list : List ℕ = list_after_run next [] before in
    sym (replied next [] before rest step run)
    ∙ ap (λ (r : List ℕ × ℕ). r.1) (after_insert list step.0 is)
