-- The rules of any container.
use Rattle.std.proofs.Common.{◌≡◌, ◌≢◌, ℕ, suc, ◌+◌, ◌<◌, ◌≤◌, ◌∙◌, List, [], take, Option, Some, None, sym, ap, subst, inl, inr, slice_get, arith}
use Rattle.std.proofs.lemmas.Bool.{cases_lt}
use Rattle.std.proofs.lemmas.Option.{same_Some, none-some}
use Rattle.book_base.specs.declared.call.Call.{Call}
use Rattle.book_base.specs.declared.call.Place.{Place}
use Rattle.book_base.specs.SeqSpec.{SeqSpec}
use Rattle.book_base.specs.Book.{Page}
use Rattle.book_base.specs.Sequential.{IsRunFrom}
use Rattle.book_base.specs.Order.{call_at, StandsAt, IsLegalOrder, HasLegalOrder}
use Rattle.legal_orders.proofs.Final.{IsRunFrom-take}
use Rattle.book_base.specs.Reaching.{list_after_run}
use Rattle.legal_orders.specs.Container.{Effect, Puts, Takes, Reading, value_put, value_taken, put_by, taken_by, times, GivesOne, IsContainer}
use Rattle.legal_orders.specs.Calls.{PutsInAlone, TakesOut}
use Rattle.legal_orders.proofs.Counting.{how_often, how_often-grows, how_often-more, how_often-found, how_often-once}
use Rattle.legal_orders.proofs.Runs.{step_of_run, holds_what_was_put}
use Rattle.legal_orders.proofs.Orders.{steps_of, answered_step, putting_step, put_alone, put_at_one_place}

-- after a prefix of a run from empty a value was put in as often as it was taken out and is still
-- held, together
pub held_after : (reading : Reading) (next : List ℕ → ℕ → List ℕ × ℕ) → IsContainer reading next
    → (v : ℕ) (list : List ℕ) (steps : List (ℕ × ℕ)) → IsRunFrom next list steps
    → reading.values list ≡ []
    → (n : ℕ) → how_often (put_by reading) v (take n steps) ≡ how_often (taken_by reading) v
    (take n steps) + times v (reading.values (list_after_run next list (take n steps)))
held_after reading next is v list steps run empty n =
    omega (
      arith,
      ap (times v) empty,
      holds_what_was_put reading next is v list (take n steps)
          (IsRunFrom-take next list n steps run),
    )

-- a step that takes, and what it shows
pub take_at : (reading : Reading) (next : List ℕ → ℕ → List ℕ × ℕ) → IsContainer reading next
    → (list : List ℕ) (steps : List (ℕ × ℕ)) → IsRunFrom next list steps
    → (k : ℕ) (step : ℕ × ℕ) (shown : Option ℕ) → slice_get steps k ≡ Some step
    → reading.deed step.0 ≡ Takes → reading.shown step.1 ≡ shown
    → GivesOne (reading.values (list_after_run next list (take k steps))) shown
    (reading.values (next (list_after_run next list (take k steps)) step.0).0)
take_at reading next is list steps run k step shown at deed shows =
    let before : List ℕ = list_after_run next list (take k steps) in
    let reply = (step_of_run next list steps k step run at).0 in
    subst
    (λ (o : Option ℕ). GivesOne (reading.values before) o (reading.values (next before step.0).0))
    (ap reading.shown reply ∙ shows) (is.take before step.0 deed)

-- a step puts in a value, or takes one out, according to its operation's effect
pub puts_by : (reading : Reading) (step : ℕ × ℕ) (v : ℕ) → reading.deed step.0 ≡ Puts v
    → put_by reading step ≡ Some v
puts_by reading step v deed = ap value_put deed

pub takes_by : (reading : Reading) (step : ℕ × ℕ) (v : ℕ) → reading.deed step.0 ≡ Takes
    → reading.shown step.1 ≡ Some v → taken_by reading step ≡ Some v
takes_by reading step v deed shows =
    ap (λ (d : Effect). value_taken d (reading.shown step.1)) deed ∙ shows

-- a value that one call alone puts in is put in at most once
puts_at_most_one : (reading : Reading) (spec : SeqSpec) (book : List Page) (order : List Place)
    → IsLegalOrder spec book order → (call : Call) (v : ℕ) → PutsInAlone reading book call v
    → (n : ℕ) → how_often (put_by reading) v (take n (steps_of book order)) ≤ 1
puts_at_most_one reading spec book order legal call v alone n =
    let steps = steps_of book order in
    elim (cases_lt (how_often (put_by reading) v (take n steps)) 1) [
      | inl none ↦ omega arith
      | inr some ↦
          let found = how_often-found (put_by reading) v steps n some in
          let stands : StandsAt order found.0 call = put_alone reading spec book order legal
          call v alone found.0 found.1 found.3 found.4 in
          how_often-once (put_by reading) v found.0 steps n
          (put_at_one_place reading spec book order legal call v found.0 alone stands)
    ]

-- a value that is put in once is taken out once
taken_at_one_place : (reading : Reading) (spec : SeqSpec) (book : List Page)
    (order : List Place) → IsContainer reading spec.next
    → reading.values spec.init ≡ [] → IsLegalOrder spec book order → (v : ℕ) (put_v : Call)
    → PutsInAlone reading book put_v v → (j k : ℕ) (a b : ℕ × ℕ)
    → slice_get (steps_of book order) j ≡ Some a → taken_by reading a ≡ Some v
    → slice_get (steps_of book order) k ≡ Some b → taken_by reading b ≡ Some v → j < k → ⊥
taken_at_one_place reading spec book order is none legal v put_v alone j k a b at_a is_a
    at_b is_b lt =
    let steps = steps_of book order in
    let first = how_often-more (taken_by reading) v steps j k a at_a is_a lt in
    let second = how_often-more (taken_by reading) v steps k (suc k) b at_b is_b (omega arith) in
    let held = held_after reading spec.next is v spec.init steps legal.run none (suc k) in
    absurd (omega (
      arith,
      first,
      second,
      held,
      puts_at_most_one reading spec book order legal put_v v alone (suc k),
    ))

-- In any container that begins empty, a book where a value is put in by one call alone and taken
-- out by two answered calls has no legal order.
pub taken_once : (reading : Reading) (spec : SeqSpec) (book : List Page)
    → IsContainer reading spec.next → reading.values spec.init ≡ []
    → (v : ℕ) (one other put_v : Call) → one ≢ other → TakesOut reading book one v
    → TakesOut reading book other v → PutsInAlone reading book put_v v
    → ¬ HasLegalOrder spec book
taken_once reading spec book is none v one other put_v apart takes_one takes_other alone h =
    let order = h.0 in
    let legal = h.1 in
    let a = answered_step reading spec book order legal one (Some v) takes_one in
    let b = answered_step reading spec book order legal other (Some v) takes_other in
    elim (cases_lt a.0 b.0) [
      | inl lt ↦ taken_at_one_place reading spec book order is none legal v put_v alone a.0 b.0
          a.1 b.1 a.3 (takes_by reading a.1 v a.4 a.5) b.3 (takes_by reading b.1 v b.4 b.5) lt
      | inr le ↦ elim (cases_lt b.0 a.0) [
        | inl gt ↦ taken_at_one_place reading spec book order is none legal v put_v alone b.0
            a.0 b.1 a.1 b.3 (takes_by reading b.1 v b.4 b.5) a.3 (takes_by reading a.1 v a.4 a.5) gt
        | inr ge ↦
            let same : a.0 ≡ b.0 = omega arith in
            let place : a.2.0 ≡ b.2.0 =
            same_Some a.2.0 b.2.0 (sym a.2.1 ∙ (ap (slice_get order) same ∙ b.2.1)) in
            apart (sym a.2.2 ∙ (ap call_at place ∙ b.2.2))
      ]
    ]
