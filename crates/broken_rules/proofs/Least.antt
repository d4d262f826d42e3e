-- The rule of priority queues: the least value is taken first.
use Rattle.std.proofs.Common.{◌≡◌, ◌⊎◌, ◌∙◌, ℕ, zero, suc, ◌^◌, ◌<◌, ◌≤◌, true, false, List, [], ◌∷◌, ◌++◌, map, insert, take, drop, Option, Some, None, refl, sym, ap, subst, inl, inr, slice_get, arith}
use Rattle.std.proofs.lemmas.Bool.{cases_Bool, cases_lt, cond-true, cond-false}
use Rattle.std.proofs.lemmas.Option.{same_Some, none-some}
use Rattle.book_base.specs.declared.call.Call.{Call}
use Rattle.book_base.specs.Book.{Page, IsCall, Precedes}
use Rattle.book_base.specs.Sequential.{IsRunFrom}
use Rattle.book_base.specs.Order.{HasLegalOrder}
use Rattle.legal_orders.specs.Container.{Effect, Puts, Takes, Neither, value_put, value_taken, put_by, taken_by, times, GivesOne, IsContainer}
use Rattle.legal_orders.proofs.Counting.{is_once, how_often, how_often-more, how_often-found, times-shown}
use Rattle.legal_orders.proofs.Orders.{steps_of, answered_step, putting_step}
use Rattle.legal_orders.proofs.ContainerRules.{puts_by}
use Rattle.legal_orders.specs.Deals as deals
use Rattle.legal_orders.specs.Deals.{deal_of}
use Rattle.legal_orders.proofs.Dealing.{puts_by_deal, takes_by_deal}
use Rattle.seq_objects.specs.declared.kind.Kind.TheVariants as kinds
use Rattle.seq_objects.specs.Words as words
use Rattle.seq_objects.specs.Words.{is_operation_of, argument_of}
use Rattle.seq_objects.specs.Items.{first_taken, place_for}
use Rattle.seq_objects.specs.PqueueSteps.{pqueue_operation, pqueue_after}
use Rattle.seq_objects.specs.Replies.{value_of, shown_value}
use Rattle.kind_search.specs.PqueueReading.{pqueue_deed, pqueue_reading}
use Rattle.seq_objects.specs.Objects.{kind_next, kind_spec}
use Rattle.kind_search.proofs.Reading.{shown_item}
use Rattle.broken_rules.specs.Removals as removals
use Rattle.broken_rules.proofs.Rising.{after_insert, after_min, after_other, mins_give_the_least}
use Rattle.broken_rules.proofs.Standing.{preceding_comes_first, taker_of_step}

abbrev next : List ℕ → ℕ → List ℕ × ℕ
next list word = pqueue_after list (pqueue_operation word)

-- ---- what an operation does

deed_insert : (word : ℕ) → is_operation_of word words.insert ≡ true
    → pqueue_reading.deed word ≡ Puts (argument_of word)
deed_insert word is = ap pqueue_deed (cond-true (is_operation_of word words.insert) _ _ is)

deed_min : (word : ℕ) → is_operation_of word words.insert ≡ false
    → is_operation_of word words.min ≡ true → pqueue_reading.deed word ≡ Takes
deed_min word other is = ap pqueue_deed (cond-false (is_operation_of word words.insert) _ _ other
    ∙ cond-true (is_operation_of word words.min) _ _ is)

deed_other : (word : ℕ) → is_operation_of word words.insert ≡ false
    → is_operation_of word words.min ≡ false → pqueue_reading.deed word ≡ Neither
deed_other word other none =
    ap pqueue_deed (cond-false (is_operation_of word words.insert) _ _ other
    ∙ cond-false (is_operation_of word words.min) _ _ none)

-- ---- a priority queue is a container

times-insert : (w x : ℕ) (xs : List ℕ) (i : ℕ)
    → times w (map value_of (insert xs i x)) ≡ times w (value_of x ∷ map value_of xs)
times-insert w x [] zero = refl
times-insert w x [] (suc i) = refl
times-insert w x (y ∷ xs) zero = refl
times-insert w x (y ∷ xs) (suc i) = omega (arith, times-insert w x xs i)

first_gives : (list : List ℕ) → GivesOne (map value_of list) (shown_value (first_taken list).1)
    (map value_of (first_taken list).0)
first_gives [] = (refl, refl)
first_gives (x ∷ rest) =
    subst (λ (o : Option ℕ). GivesOne (map value_of (x ∷ rest)) o (map value_of rest))
    (sym (shown_item x)) (λ w. refl)

same_put : (v w : ℕ) → Puts v ≡ Puts w → v ≡ w
same_put v w e = same_Some v w (ap value_put e)

pqueue_put : (list : List ℕ) (word v : ℕ) → pqueue_reading.deed word ≡ Puts v → (w : ℕ)
    → times w (map value_of (next list word).0) ≡ times w (v ∷ map value_of list)
pqueue_put list word v e w = elim (cases_Bool (is_operation_of word words.insert)) [
  | inl is ↦
      let same : argument_of word ≡ v =
      same_put (argument_of word) v (sym (deed_insert word is) ∙ e) in
      let value : value_of (argument_of word) ≡ v = omega (arith, same) in
      ap (λ (r : List ℕ × ℕ). times w (map value_of r.0)) (after_insert list word is)
      ∙ (times-insert w (argument_of word) list (place_for list (argument_of word))
      ∙ ap (λ (x : ℕ). times w (x ∷ map value_of list)) value)
  | inr other ↦ elim (cases_Bool (is_operation_of word words.min)) [
    | inl min ↦ absurd (cc (sym (deed_min word other min) ∙ e))
    | inr none ↦ absurd (cc (sym (deed_other word other none) ∙ e))
  ]
]

pqueue_take : (list : List ℕ) (word : ℕ) → pqueue_reading.deed word ≡ Takes → GivesOne
    (map value_of list) (shown_value (next list word).1) (map value_of (next list word).0)
pqueue_take list word e = elim (cases_Bool (is_operation_of word words.insert)) [
  | inl is ↦ absurd (cc (sym (deed_insert word is) ∙ e))
  | inr other ↦ elim (cases_Bool (is_operation_of word words.min)) [
    | inl min ↦ subst
        (λ (r : List ℕ × ℕ). GivesOne (map value_of list) (shown_value r.1) (map value_of r.0))
        (sym (after_min list word other min)) (first_gives list)
    | inr none ↦ absurd (cc (sym (deed_other word other none) ∙ e))
  ]
]

pqueue_neither : (list : List ℕ) (word : ℕ) → pqueue_reading.deed word ≡ Neither
    → map value_of (next list word).0 ≡ map value_of list
pqueue_neither list word e = elim (cases_Bool (is_operation_of word words.insert)) [
  | inl is ↦ absurd (cc (sym (deed_insert word is) ∙ e))
  | inr other ↦ elim (cases_Bool (is_operation_of word words.min)) [
    | inl min ↦ absurd (cc (sym (deed_min word other min) ∙ e))
    | inr none ↦ ap (λ (r : List ℕ × ℕ). map value_of r.0) (after_other list word other none)
  ]
]

pub pqueue_is_container : IsContainer pqueue_reading
    (λ list word. pqueue_after list (pqueue_operation word))
pqueue_is_container = record { put = pqueue_put; take = pqueue_take; neither = pqueue_neither }

-- ---- the two readings of priority queues are the same

same_deed : (word : ℕ) → removals.pqueue_deed word ≡ pqueue_reading.deed word
same_deed word = elim (cases_Bool (is_operation_of word words.insert)) [
  | inl is ↦ cond-true (is_operation_of word words.insert) _ _ is ∙ sym (deed_insert word is)
  | inr other ↦ elim (cases_Bool (is_operation_of word words.min)) [
    | inl min ↦ (cond-false (is_operation_of word words.insert) _ _ other
        ∙ cond-true (is_operation_of word words.min) _ _ min) ∙ sym (deed_min word other min)
    | inr none ↦ (cond-false (is_operation_of word words.insert) _ _ other
        ∙ cond-false (is_operation_of word words.min) _ _ none) ∙ sym (deed_other word other none)
  ]
]

same_puts : (v : ℕ) (steps : List (ℕ × ℕ))
    → how_often (put_by removals.pqueue_reading) v steps ≡ how_often (put_by pqueue_reading) v steps
same_puts v [] = refl
same_puts v (step ∷ steps) =
    omega
    (arith, ap (λ (d : Effect). is_once v (value_put d)) (same_deed step.0), same_puts v steps)

same_takes : (v : ℕ) (steps : List (ℕ × ℕ)) → how_often (taken_by removals.pqueue_reading) v steps
    ≡ how_often (taken_by pqueue_reading) v steps
same_takes v [] = refl
same_takes v (step ∷ steps) = omega (
  arith,
  ap (λ (d : Effect). is_once v (value_taken d (shown_value step.1))) (same_deed step.0),
  same_takes v steps,
)

-- an operation that is read as a take is a min
is_min : (word : ℕ) → pqueue_reading.deed word ≡ Takes → is_operation_of word words.min ≡ true
is_min word takes = elim (cases_Bool (is_operation_of word words.insert)) [
  | inl is ↦ absurd (cc (sym (deed_insert word is) ∙ takes))
  | inr other ↦ elim (cases_Bool (is_operation_of word words.min)) [
    | inl min ↦ min
    | inr none ↦ absurd (cc (sym (deed_other word other none) ∙ takes))
  ]
]

-- the steps of a run before a step, the step, and those after it
pub split_step : (steps : List (ℕ × ℕ)) (m : ℕ) (step : ℕ × ℕ) → slice_get steps m ≡ Some step
    → steps ≡ take m steps ++ step ∷ drop (suc m) steps
split_step [] m step e = absurd (none-some step e)
split_step (first ∷ rest) zero step e = ap (λ (s : ℕ × ℕ). s ∷ rest) (same_Some first step e)
split_step (first ∷ rest) (suc m) step e =
    ap (λ (xs : List (ℕ × ℕ)). first ∷ xs) (split_step rest m step e)

-- The value that a min gives is no greater than one that was put in more often than it was taken.
min_is_least : (steps : List (ℕ × ℕ)) (m : ℕ) (step : ℕ × ℕ) (v w : ℕ)
    → IsRunFrom (kind_next kinds.Pqueue) [] steps → slice_get steps m ≡ Some step
    → pqueue_reading.deed step.0 ≡ Takes → shown_value step.1 ≡ Some w
    → how_often (taken_by pqueue_reading) v (take m steps)
    < how_often (put_by pqueue_reading) v (take m steps) → w ≤ v
min_is_least steps m step v w run at takes shows more =
    let before : List (ℕ × ℕ) = take m steps in
    let rest : List (ℕ × ℕ) = drop (suc m) steps in
    let split : IsRunFrom (kind_next kinds.Pqueue) [] (before ++ step ∷ rest) =
    subst (IsRunFrom (kind_next kinds.Pqueue) []) (split_step steps m step at) run in
    let gives = mins_give_the_least before rest step split (is_min step.0 takes) in
    elim gives [
      | inl none ↦
          let nothing : shown_value step.1 ≡ None = ap shown_value none.0 in
          absurd (none-some w (sym nothing ∙ shows))
      | inr one ↦
          let value : Some (value_of one.0) ≡ Some w =
          sym (shown_item one.0) ∙ (sym (ap shown_value one.1) ∙ shows) in
          let same : value_of one.0 ≡ w = same_Some (value_of one.0) w value in
          let small : one.0 < 2 ^ 32 = one.2.small in
          let inside : times v (removals.given_out removals.pqueue_reading before)
          < times v (removals.put_in removals.pqueue_reading before)
          = omega (
            arith,
            more,
            same_puts v before,
            same_takes v before,
            times-shown (put_by removals.pqueue_reading) v before,
            times-shown (taken_by removals.pqueue_reading) v before,
          ) in
          omega (arith, same, small, one.2.least v inside)
    ]

-- A lesser value that is put in before a take is taken before it: not each of its takes comes
-- after.
pub lesser_left : (book : List Page) (v w : ℕ) (put taker : Call) → v < w
    → deal_of pqueue_reading book put ≡ deals.Put v
    → deal_of pqueue_reading book taker ≡ deals.Took w → Precedes book put taker
    → ((call : Call) → IsCall book call → (deal_of pqueue_reading book call ≡ deals.Took v)
    ⊎ (deal_of pqueue_reading book call ≡ deals.OpenTake) → Precedes book taker call)
    → ¬ HasLegalOrder (kind_spec kinds.Pqueue) book
lesser_left book v w put taker less puts takes precedes follow h =
    let spec = kind_spec kinds.Pqueue in
    let order = h.0 in
    let legal = h.1 in
    let steps = steps_of book order in
    let m = answered_step pqueue_reading spec book order legal taker (Some w)
    (takes_by_deal pqueue_reading book taker w takes) in
    let q = preceding_comes_first spec book put taker precedes order legal m.0 m.2 in
    let step = putting_step pqueue_reading book order put v q.0
    (puts_by_deal pqueue_reading book put v puts) q.2 in
    let in_before : 1 ≤ how_often (put_by pqueue_reading) v (take m.0 steps)
    = omega (
      arith,
      how_often-more (put_by pqueue_reading) v steps q.0 m.0 step.0 step.1
          (puts_by pqueue_reading step.0 v step.2) q.1,
    ) in
    let none_out : how_often (taken_by pqueue_reading) v (take m.0 steps) < 1 =
    elim (cases_lt (how_often (taken_by pqueue_reading) v (take m.0 steps)) 1) [
      | inl fine ↦ fine
      | inr some ↦
          let found = how_often-found (taken_by pqueue_reading) v steps m.0 some in
          let other =
          taker_of_step pqueue_reading spec book order legal found.0 v found.1 found.3 found.4 in
          let late : m.0 < found.0 =
          legal.precedence m.0 found.0 taker other.0 m.2 other.1 (follow other.0 other.2 other.3) in
          absurd (omega (arith, late, found.2))
    ] in
    absurd (omega (
      arith,
      less,
      min_is_least steps m.0 m.1 v w legal.run m.3 m.4 m.5 (omega (arith, in_before, none_out)),
    ))
