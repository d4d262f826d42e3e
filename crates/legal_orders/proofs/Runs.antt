-- Runs of objects that hold values: the list at each moment, and what was put in and taken out up
-- to that moment.
use Rattle.std.proofs.Common.{◌≡◌, ℕ, zero, suc, ◌+◌, List, [], ◌∷◌, take, Option, Some, None, refl, ap, subst, slice_get, arith}
use Rattle.std.proofs.lemmas.Option.{same_Some, none-some}
use Rattle.book_base.specs.Sequential.{IsRunFrom}
use Rattle.book_base.specs.Reaching.{list_after_run}
use Rattle.legal_orders.specs.Container.{Effect, Puts, Takes, Neither, Reading, value_put, value_taken, put_by, taken_by, times, GivesOne, IsContainer}
use Rattle.legal_orders.proofs.Counting.{is_once, how_often}

-- a step of a run: its reply is the one that the object gives at the list before it, and the list
-- after it is the object's next
pub step_of_run : (next : List ℕ → ℕ → List ℕ × ℕ) (list : List ℕ) (steps : List (ℕ × ℕ)) (k : ℕ)
    (step : ℕ × ℕ) → IsRunFrom next list steps → slice_get steps k ≡ Some step
    → ((next (list_after_run next list (take k steps)) step.0).1 ≡ step.1)
    × (list_after_run next list (take (suc k) steps)
    ≡ (next (list_after_run next list (take k steps)) step.0).0)
step_of_run next list [] k step run e = absurd (none-some step e)
step_of_run next list (first ∷ rest) zero step run e =
    let same : first ≡ step = same_Some first step e in (
      subst (λ (s : ℕ × ℕ). (next list s.0).1 ≡ s.1) same run.0,
      ap (λ (s : ℕ × ℕ). (next list s.0).0) same,
    )
step_of_run next list (first ∷ rest) (suc k) step run e =
    step_of_run next (next list first.0).0 rest k step run.1 e

-- what a container held before a take is what the take shows, with what the container holds
-- afterwards
container_take : (reading : Reading) (next : List ℕ → ℕ → List ℕ × ℕ) (list : List ℕ) (op v : ℕ)
    (shown : Option ℕ) → GivesOne (reading.values list) shown (reading.values (next list op).0)
    → times v (reading.values list) + 0
    ≡ is_once v shown + times v (reading.values (next list op).0)
container_take reading next list op v None gives =
    omega (arith, ap (times v) gives.0, ap (times v) gives.1)
container_take reading next list op v (Some w) gives = omega (arith, gives v)

-- a value was held before one step and is put in by it as often as it is taken out by it and held
-- afterwards, together
container_step : (reading : Reading) (next : List ℕ → ℕ → List ℕ × ℕ) → IsContainer reading next
    → (list : List ℕ) (op v : ℕ) (deed : Effect) → reading.deed op ≡ deed
    → times v (reading.values list) + is_once v (value_put deed) ≡ is_once v
    (value_taken deed (reading.shown (next list op).1)) + times v (reading.values (next list op).0)
container_step reading next is list op v (Puts w) e = omega (arith, is.put list op w e v)
container_step reading next is list op v Takes e =
    container_take reading next list op v (reading.shown (next list op).1) (is.take list op e)
container_step reading next is list op v Neither e =
    omega (arith, ap (times v) (is.neither list op e))

-- What a container holds: each value as often as it was there before and was put in, less the times
-- that it was taken out.
pub holds_what_was_put : (reading : Reading) (next : List ℕ → ℕ → List ℕ × ℕ)
    → IsContainer reading next → (v : ℕ) (list : List ℕ) (steps : List (ℕ × ℕ))
    → IsRunFrom next list steps
    → times v (reading.values list) + how_often (put_by reading) v steps ≡ how_often
    (taken_by reading) v steps + times v (reading.values (list_after_run next list steps))
holds_what_was_put reading next is v list [] run = omega arith
holds_what_was_put reading next is v list (step ∷ steps) run =
    let here = container_step reading next is list step.0 v (reading.deed step.0) refl in
    let taken : is_once v (taken_by reading (step.0, (next list step.0).1))
    ≡ is_once v (taken_by reading step)
    = ap (λ (reply : ℕ). is_once v (taken_by reading (step.0, reply))) run.0 in
    omega
    (arith, here, taken, holds_what_was_put reading next is v (next list step.0).0 steps run.1)
