-- A take of a container gives out a value that was put in more often than it was given out.
use Rattle.std.proofs.Common.{◌≡◌, ℕ, ◌+◌, ◌<◌, ◌≤◌, List, [], ◌∷◌, ◌++◌, Option, Some, refl, ap, ◌∙◌, subst, arith, eq-eqb}
use Rattle.book_base.specs.Sequential.{IsRunFrom}
use Rattle.book_base.specs.Reaching.{list_after_run}
use Rattle.legal_orders.specs.Container.{Effect, Puts, Takes, Neither, Reading, value_taken, put_by, taken_by, one_if, times, GivesOne, IsContainer}
use Rattle.legal_orders.proofs.Counting.{times-shown}
use Rattle.legal_orders.proofs.Runs.{holds_what_was_put}
use Rattle.legal_orders.proofs.QueueRuns.{queue_is_container, stack_is_container}
use Rattle.seq_objects.specs.declared.kind.Kind.TheVariants.{Queue, Stack}
use Rattle.seq_objects.specs.QueueSteps.{queue_operation, queue_after}
use Rattle.seq_objects.specs.StackSteps.{stack_operation, stack_after}
use Rattle.kind_search.specs.Readings.{queue_reading, stack_reading}
use Rattle.seq_objects.specs.Objects.{kind_next}
use Rattle.kind_search.proofs.Reading.{queue_is_read, stack_is_read}
use Rattle.broken_rules.specs.Removals.{put_in, given_out, TakesTakeWhatWasPut}
use Rattle.broken_rules.proofs.Stepping.{replied, runs_before}

module _ (reading : Reading) (next : List ℕ → ℕ → List ℕ × ℕ) (is : IsContainer reading next)
    (init : List ℕ) (none : reading.values init ≡ []) where
  -- each value was put in as often as it was given out and is still in the list together
  pub held : (steps : List (ℕ × ℕ)) → IsRunFrom next init steps → (w : ℕ)
      → times w (put_in reading steps) ≡ times w (given_out reading steps)
      + times w (reading.values (list_after_run next init steps))
  held steps run w =
      omega (
        arith,
        ap (times w) none,
        holds_what_was_put reading next is w init steps run,
        times-shown (put_by reading) w steps,
        times-shown (taken_by reading) w steps,
      )

  taken_was_held : (list : List ℕ) (step : ℕ × ℕ) (value : ℕ) (deed : Effect) → (next list step.0).1
      ≡ step.1 → reading.deed step.0 ≡ deed → value_taken deed (reading.shown step.1) ≡ Some value
      → 1 ≤ times value (reading.values list)
  taken_was_held list step value (Puts w) reply deed taken = absurd cc
  taken_was_held list step value Takes reply deed taken =
      let gives : GivesOne (reading.values list) (Some value)
      (reading.values (next list step.0).0) =
      subst
      (λ (o : Option ℕ). GivesOne (reading.values list) o (reading.values (next list step.0).0))
      (ap reading.shown reply ∙ taken) (is.take list step.0 deed) in
      omega (arith, gives value, ap one_if (eq-eqb value value refl))
  taken_was_held list step value Neither reply deed taken = absurd cc

  pub takes : (before rest : List (ℕ × ℕ)) (step : ℕ × ℕ) (value : ℕ)
      → IsRunFrom next init (before ++ step ∷ rest) → taken_by reading step ≡ Some value
      → times value (given_out reading before) < times value (put_in reading before)
  takes before rest step value run taken =
      let list : List ℕ = list_after_run next init before in
      let some = taken_was_held list step value (reading.deed step.0)
      (replied next init before rest step run) refl taken in
      omega (arith, some, held before (runs_before next init before (step ∷ rest) run) value)

pub queues_take_what_was_put : TakesTakeWhatWasPut Queue queue_reading
unfolding kind_next
queues_take_what_was_put =
    let next = λ (list : List ℕ) (word : ℕ). queue_after list (queue_operation word) in
    takes queue_reading next (queue_is_container queue_reading next queue_is_read) [] refl

pub stacks_take_what_was_put : TakesTakeWhatWasPut Stack stack_reading
unfolding kind_next
stacks_take_what_was_put =
    let next = λ (list : List ℕ) (word : ℕ). stack_after list (stack_operation word) in
    takes stack_reading next (stack_is_container stack_reading next stack_is_read) [] refl
