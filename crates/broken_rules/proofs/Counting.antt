-- A counter counts.
use Rattle.std.proofs.Common.{◌≡◌, ℕ, ◌+◌, ◌%◌, ◌^◌, Bool, cond, List, [], ◌∷◌, ap, inl, inr, arith}
use Rattle.std.specs.Prelude.{count_by}
use Rattle.std.proofs.lemmas.Bool.{cases_Bool, cond-true, cond-false}
use Rattle.std.proofs.lemmas.List.Sums.{sum_by-cons}
use Rattle.book_base.specs.Reaching.{list_after_run}
use Rattle.seq_objects.specs.Words.{inc}
use Rattle.seq_objects.specs.Replies.{reply_value}
use Rattle.seq_objects.specs.Items.{first_or_zero}
use Rattle.seq_objects.specs.CounterSteps.{counter_operation, counter_after, counter_after-inc, counter_after-other}
use Rattle.seq_objects.specs.Objects.{kind_next}
use Rattle.broken_rules.specs.Runs.{does}
use Rattle.broken_rules.specs.CounterRuns.{IncrementsAreCounted}
use Rattle.broken_rules.proofs.Stepping.{replied}

abbrev next : List ℕ → ℕ → List ℕ × ℕ
next list word = counter_after list (counter_operation word)

abbrev one_for : Bool → ℕ
one_for test = cond test 1 0

-- a step of a counter adds one to the count where it increments
counted : (list : List ℕ) (step : ℕ × ℕ) → first_or_zero (next list step.0).0 % 2 ^ 32
    ≡ (first_or_zero list + one_for (does inc step)) % 2 ^ 32
counted list step = elim (cases_Bool (does inc step)) [
  | inl is ↦
      let after : first_or_zero (next list step.0).0 ≡ (first_or_zero list + 1) % 2 ^ 32 =
      ap (λ (r : List ℕ × ℕ). first_or_zero r.0) (counter_after-inc list step.0 is) in
      let one : one_for (does inc step) ≡ 1 = cond-true (does inc step) 1 0 is in
      omega (arith, after, one)
  | inr other ↦
      let after : first_or_zero (next list step.0).0 ≡ first_or_zero list =
      ap (λ (r : List ℕ × ℕ). first_or_zero r.0) (counter_after-other list step.0 other) in
      let none : one_for (does inc step) ≡ 0 = cond-false (does inc step) 1 0 other in
      omega (arith, after, none)
]

-- the list holds the count, modulo 2 ^ 32
holds : (list : List ℕ) (steps : List (ℕ × ℕ)) → first_or_zero (list_after_run next list steps) % 2
    ^ 32 ≡ (first_or_zero list + count_by (does inc) steps) % 2 ^ 32
holds list [] = omega arith
holds list (step ∷ steps) =
    omega (
      arith,
      counted list step,
      holds (next list step.0).0 steps,
      sum_by-cons (λ (s : ℕ × ℕ). one_for (does inc s)) step steps,
    )

pub increments_are_counted : IncrementsAreCounted
unfolding kind_next
increments_are_counted before rest step run is =
    let held : List ℕ = list_after_run next (0 ∷ []) before in
    let reply : (next held step.0).1 ≡ step.1 = replied next (0 ∷ []) before rest step run in
    let count : (next held step.0).1 ≡ reply_value (first_or_zero held) =
    ap (λ (r : List ℕ × ℕ). r.1) (counter_after-inc held step.0 is) in
    omega (arith, reply, count, holds (0 ∷ []) before)
