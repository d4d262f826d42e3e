-- A stack gives the last value put in that wasn't given out yet.
use Rattle.std.proofs.Common.{◌≡◌, ℕ, ◌+◌, ◌≤◌, ◌⊎◌, true, List, [], ◌∷◌, ◌++◌, length, map, reverse, slice_index, Option, Some, None, refl, sym, ap, subst, ◌∙◌, inl, inr, arith}
use Rattle.std.specs.List.{cons_option}
use Rattle.std.proofs.lemmas.Bool.{cond-true, cond-false}
use Rattle.book_base.specs.Sequential.{IsRunFrom}
use Rattle.book_base.specs.Reaching.{list_after_run}
use Rattle.legal_orders.specs.Container.{Effect, Puts, Takes, Neither, value_put, value_taken, put_by, taken_by, GivesFirst}
use Rattle.seq_objects.specs.declared.kind.Kind.TheVariants.{Stack}
use Rattle.seq_objects.specs.Words as words
use Rattle.seq_objects.specs.Words.{is_operation_of, argument_of}
use Rattle.seq_objects.specs.Replies.{reply_done, reply_value, value_of, shown_value}
use Rattle.seq_objects.specs.Items.{last_taken}
use Rattle.seq_objects.specs.StackSteps.{stack_operation, stack_after}
use Rattle.kind_search.specs.Readings.{stack_deed, stack_reading}
use Rattle.seq_objects.specs.Objects.{kind_next}
use Rattle.kind_search.proofs.Reading.{stack_is_read}
use Rattle.broken_rules.specs.Runs.{AreDone}
use Rattle.broken_rules.specs.Removals.{put_in, given_out, AreEven, IsNewest, GivesTheNewest, PopsGiveTheNewest}
use Rattle.broken_rules.proofs.Stepping.{replied, runs_before, apart, shown_item}

abbrev next : List ℕ → ℕ → List ℕ × ℕ
next list word = stack_after list (stack_operation word)

-- the values of a list, the last one put in first
abbrev values : List ℕ → List ℕ
values list = reverse (map value_of list)

-- how many values steps put in, and how many they give out
abbrev puts : List (ℕ × ℕ) → ℕ
puts steps = length (put_in stack_reading steps)

abbrev takes : List (ℕ × ℕ) → ℕ
takes steps = length (given_out stack_reading steps)

abbrev present : Option ℕ → ℕ
present None = 0
present (Some v) = 1

length-cons_option : (o : Option ℕ) (xs : List ℕ)
    → length (cons_option o xs) ≡ present o + length xs
length-cons_option None xs = omega arith
length-cons_option (Some v) xs = omega arith

-- Steps lead from k values above a value to n values above it, and never give out the value itself.
record Covers (k n : ℕ) (steps : List (ℕ × ℕ)) : Type 0 where
  pub all : k + puts steps ≡ takes steps + n
  pub first : (prefix rest : List (ℕ × ℕ)) → steps ≡ prefix ++ rest → takes prefix ≤ k + puts prefix

covers_none : (k : ℕ) → Covers k k []
covers_none k = record { all = omega arith; first = first } where
  first : (prefix rest : List (ℕ × ℕ)) → [] ≡ prefix ++ rest → takes prefix ≤ k + puts prefix
  first [] rest e = omega arith
  first (step ∷ prefix) rest e = absurd cc

same_head : (a b : ℕ × ℕ) (xs ys : List (ℕ × ℕ)) → a ∷ xs ≡ b ∷ ys → (a ≡ b) × (xs ≡ ys)
same_head a b xs ys e = (cc, cc)

covers_step : (k m n : ℕ) (step : ℕ × ℕ) (steps : List (ℕ × ℕ))
    → k + present (put_by stack_reading step) ≡ m + present (taken_by stack_reading step)
    → Covers m n steps → Covers k n (step ∷ steps)
covers_step k m n step steps e h = record {
  all = omega (
    arith,
    h.all,
    length-cons_option (put_by stack_reading step) (put_in stack_reading steps),
    length-cons_option (taken_by stack_reading step) (given_out stack_reading steps),
  );
  first = first;
} where
  first : (prefix rest : List (ℕ × ℕ)) → step ∷ steps ≡ prefix ++ rest
      → takes prefix ≤ k + puts prefix
  first [] rest e = omega arith
  first (other ∷ prefix) rest same =
      let parts = same_head step other steps (prefix ++ rest) same in
      let put = ap (λ (s : ℕ × ℕ). present (put_by stack_reading s)) parts.0 in
      let taken = ap (λ (s : ℕ × ℕ). present (taken_by stack_reading s)) parts.0 in
      omega (
        arith,
        put,
        taken,
        h.first prefix rest parts.1,
        length-cons_option (put_by stack_reading other) (put_in stack_reading prefix),
        length-cons_option (taken_by stack_reading other) (given_out stack_reading prefix),
      )

-- what a step of a run does to the values
data Does (list : List ℕ) (step : ℕ × ℕ) : Type 0 where
  DoesPut : (w : ℕ) → put_by stack_reading step ≡ Some w → taken_by stack_reading step ≡ None
      → values (next list step.0).0 ≡ w ∷ values list → Does list step
  DoesTake : (w : ℕ) → put_by stack_reading step ≡ None → taken_by stack_reading step ≡ Some w
      → values list ≡ w ∷ values (next list step.0).0 → Does list step
  DoesNothing : put_by stack_reading step ≡ None → taken_by stack_reading step ≡ None
      → values (next list step.0).0 ≡ values list → Does list step

what_is_done : (list : List ℕ) (step : ℕ × ℕ) → (next list step.0).1 ≡ step.1 → Does list step
what_is_done list step replied = by_deed (stack_reading.deed step.0) refl where
  by_shown : (shown : Option ℕ) → stack_reading.deed step.0 ≡ Takes → shown_value step.1 ≡ shown
      → GivesFirst (values list) shown (values (next list step.0).0) → Does list step
  by_shown None is e gives = DoesNothing (ap value_put is)
      (ap (λ (d : Effect). value_taken d (shown_value step.1)) is ∙ e) (gives.1 ∙ sym gives.0)
  by_shown (Some w) is e gives = DoesTake w (ap value_put is)
      (ap (λ (d : Effect). value_taken d (shown_value step.1)) is ∙ e) gives

  by_deed : (deed : Effect) → stack_reading.deed step.0 ≡ deed → Does list step
  by_deed (Puts w) is =
      DoesPut w (ap value_put is) (ap (λ (d : Effect). value_taken d (shown_value step.1)) is)
      (stack_is_read.put list step.0 w is)
  by_deed Takes is = by_shown (shown_value (next list step.0).1) is (ap shown_value (sym replied))
      (stack_is_read.take list step.0 is)
  by_deed Neither is =
      DoesNothing (ap value_put is) (ap (λ (d : Effect). value_taken d (shown_value step.1)) is)
      (stack_is_read.neither list step.0 is)

-- the steps of a run lead from as many values as the list has before them to as many as it has
-- after them
covers_all : (list : List ℕ) (steps : List (ℕ × ℕ)) → IsRunFrom next list steps
    → Covers (length (values list)) (length (values (list_after_run next list steps))) steps
covers_all list [] run = covers_none (length (values list))
covers_all list (step ∷ steps) run =
    let after : List ℕ = (next list step.0).0 in
    let rest = covers_all after steps run.1 in
    let n : ℕ = length (values (list_after_run next after steps)) in
    elim (what_is_done list step run.0) [
      | DoesPut w put taken is ↦ covers_step (length (values list)) (length (values after)) n step
          steps (omega (arith, ap present put, ap present taken, ap length is)) rest
      | DoesTake w put taken is ↦ covers_step (length (values list)) (length (values after)) n step
          steps (omega (arith, ap present put, ap present taken, ap length is)) rest
      | DoesNothing put taken is ↦ covers_step (length (values list)) (length (values after)) n step
          steps (omega (arith, ap present put, ap present taken, ap length is)) rest
    ]

-- a value is put in by one of the steps, and n values are above it after them
record IsPut (steps : List (ℕ × ℕ)) (v n : ℕ) : Type 0 where
  pub before : List (ℕ × ℕ)
  pub push : ℕ × ℕ
  pub later : List (ℕ × ℕ)
  pub steps_are : steps ≡ before ++ push ∷ later
  pub puts : put_by stack_reading push ≡ Some v
  pub covers : Covers 0 n later

put_later : (step : ℕ × ℕ) (steps : List (ℕ × ℕ)) (v n : ℕ) → IsPut steps v n
    → IsPut (step ∷ steps) v n
put_later step steps v n h = record {
  before = step ∷ h.before;
  push = h.push;
  later = h.later;
  steps_are = ap (λ (ss : List (ℕ × ℕ)). step ∷ ss) h.steps_are;
  puts = h.puts;
  covers = h.covers;
}

same_value : (a b : ℕ) (xs ys : List ℕ) → a ∷ xs ≡ b ∷ ys → (a ≡ b) × (xs ≡ ys)
same_value a b xs ys e = (cc, cc)

-- a value of the list after some steps was put in by them, or was in the list before and stayed
abbrev IsPutOrThere : List ℕ → List (ℕ × ℕ) → ℕ → List ℕ → ℕ → Type 0
IsPutOrThere list steps v below n = IsPut steps v n
    ⊎ ((top : List ℕ) × (values list ≡ top ++ v ∷ below) × Covers (length top) n steps)

found : (list : List ℕ) (steps : List (ℕ × ℕ)) → IsRunFrom next list steps
    → (above : List ℕ) (v : ℕ) (below : List ℕ)
    → values (list_after_run next list steps) ≡ above ++ v ∷ below
    → IsPutOrThere list steps v below (length above)
found list [] run above v below e = inr (above, e, covers_none (length above))
found list (step ∷ steps) run above v below e =
    elim (found (next list step.0).0 steps run.1 above v below e) [
      | inl put ↦ inl (put_later step steps v (length above) put)
      | inr old ↦ found_by (what_is_done list step run.0) old.0 old.1 old.2
    ] where
      n : ℕ
      n = length above

      found_by : Does list step → (top : List ℕ) → values (next list step.0).0 ≡ top ++ v ∷ below
          → Covers (length top) (length above) steps
          → IsPutOrThere list (step ∷ steps) v below (length above)
      found_by (DoesPut w put taken is) [] at covers =
          let parts = same_value w v (values list) below (sym is ∙ at) in
          inl (record {
            before = [];
            push = step;
            later = steps;
            steps_are = refl;
            puts = put ∙ ap Some parts.0;
            covers = covers;
          })
      found_by (DoesPut w put taken is) (t ∷ top) at covers =
          let parts = same_value w t (values list) (top ++ v ∷ below) (sym is ∙ at) in
          inr (
            top,
            parts.1,
            covers_step (length top) (length (t ∷ top)) (length above) step steps
                (omega (arith, ap present put, ap present taken)) covers,
          )
      found_by (DoesTake w put taken is) top at covers =
          inr (
            w ∷ top,
            is ∙ ap (λ (xs : List ℕ). w ∷ xs) at,
            covers_step (length (w ∷ top)) (length top) (length above) step steps
                (omega (arith, ap present put, ap present taken)) covers,
          )
      found_by (DoesNothing put taken is) top at covers =
          inr (
            top,
            sym is ∙ at,
            covers_step (length top) (length top) (length above) step steps
                (omega (arith, ap present put, ap present taken)) covers,
          )

even : (steps : List (ℕ × ℕ)) → Covers 0 0 steps → AreEven steps
even steps h = record {
  all = omega (arith, h.all);
  first = λ prefix rest e. omega (arith, h.first prefix rest e);
}

pub after_push : (list : List ℕ) (word : ℕ) → is_operation_of word words.push ≡ true
    → next list word ≡ (list ++ argument_of word ∷ [], reply_done)
after_push list word is = ap (stack_after list) (cond-true (is_operation_of word words.push) _ _ is)

pop_asked : (word : ℕ) → is_operation_of word words.pop ≡ true → stack_reading.deed word ≡ Takes
pop_asked word is =
    ap stack_deed
    (cond-false (is_operation_of word words.push) _ _
    (apart word words.pop words.push (omega arith) is)
    ∙ cond-true (is_operation_of word words.pop) _ _ is)

pub after_pop : (list : List ℕ) (word : ℕ) → is_operation_of word words.pop ≡ true
    → next list word ≡ last_taken list
after_pop list word is =
    ap (stack_after list)
    (cond-false (is_operation_of word words.push) _ _
    (apart word words.pop words.push (omega arith) is)
    ∙ cond-true (is_operation_of word words.pop) _ _ is)

no_value : (top : List ℕ) (v : ℕ) (below : List ℕ) → [] ≡ top ++ v ∷ below → ⊥
no_value [] v below e = cc
no_value (t ∷ top) v below e = cc

newest : (before : List (ℕ × ℕ)) (v : ℕ) (below : List ℕ) → IsPutOrThere [] before v below 0
    → IsNewest before v
newest before v below (inl put) = record {
  before = put.before;
  push = put.push;
  later = put.later;
  steps_are = put.steps_are;
  puts = put.puts;
  even = even put.later put.covers;
}
newest before v below (inr old) = absurd (no_value old.0 v below old.1)

pub pops_give_the_newest : PopsGiveTheNewest
unfolding kind_next
pops_give_the_newest before rest step run is = gives (list_after_run next [] before) refl where
  first_steps : IsRunFrom next [] before
  first_steps = runs_before next [] before (step ∷ rest) run

  reply : (list : List ℕ) → list_after_run next [] before ≡ list → (next list step.0).1 ≡ step.1
  reply list e =
      ap (λ (xs : List ℕ). (next xs step.0).1) (sym e) ∙ replied next [] before rest step run

  gives : (list : List ℕ) → list_after_run next [] before ≡ list → GivesTheNewest before step.1
  gives [] e =
      let covers = covers_all [] before first_steps in
      inl (
        sym (reply [] e) ∙ ap (λ (r : List ℕ × ℕ). r.1) (after_pop [] step.0 is),
        even before (subst (λ (n : ℕ). Covers 0 n before)
            (ap (λ (xs : List ℕ). length (values xs)) e) covers),
      )
  gives (x ∷ list) e =
      let whole : List ℕ = x ∷ list in
      let last : ℕ = slice_index whole (length list) in
      let replied : (next whole step.0).1 ≡ reply_value last =
      ap (λ (r : List ℕ × ℕ). r.1) (after_pop whole step.0 is) in
      let top : GivesFirst (values whole) (Some (value_of last)) (values (next whole step.0).0)
      = subst (λ (o : Option ℕ). GivesFirst (values whole) o (values (next whole step.0).0))
      (ap shown_value replied ∙ shown_item last)
      (stack_is_read.take whole step.0 (pop_asked step.0 is)) in
      let same : reply_value last ≡ reply_value (value_of last) = omega arith in
      inr (
        value_of last,
        sym (reply whole e) ∙ replied ∙ same,
        newest before (value_of last) (values (next whole step.0).0) (found [] before
            first_steps [] (value_of last) (values (next whole step.0).0) (ap values e ∙ top)),
      )

pub pushes_are_done : AreDone Stack words.push
unfolding kind_next
pushes_are_done before rest step run is =
    let list : List ℕ = list_after_run next [] before in
    sym (replied next [] before rest step run)
    ∙ ap (λ (r : List ℕ × ℕ). r.1) (after_push list step.0 is)
