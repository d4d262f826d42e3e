-- No steps lead to a whole standing from standings that lead to one another alone: each would lead
-- to one of them with fewer steps left, or with as many left and more takes that find nothing
-- covered.
use Rattle.std.proofs.Common.{◌≡◌, ℕ, zero, suc, ◌+◌, ◌<◌, ◌≤◌, List, [], ◌∷◌, length, Some, max, ap, inl, inr, slice_get, arith}
use Rattle.std.proofs.lemmas.List.{length-replicate}
use Rattle.std.proofs.lemmas.Option.{same_Some, none-some}
use Rattle.book_base.specs.Book.{Page, IsValid}
use Rattle.book_base.specs.Pruning.{HasOneOpen}
use Rattle.legal_orders.specs.Container.{Reading}
use Rattle.queue_pairs.specs.Pairs.{Paired, PairStep, AreSteps, none_paired}
use Rattle.queue_pairs.proofs.Walking.{steps_from_order}
use Rattle.queue_refutation.specs.Closed.{IsOnePaired, AreClosed}
use Rattle.queue_refutation.specs.RefutationLaws.{ClosedStandingsAreDead, ClosedStartsHaveNoOrder}
use Rattle.queue_refutation.proofs.Leading.{leads-on}

-- the latest moment up to which one of the standings covers takes that find nothing
abbrev latest : List Paired → ℕ
latest [] = 0
latest (s ∷ standings) = max s.found (latest standings)

latest-bounds : (standings : List Paired) (k : ℕ) (s : Paired) → slice_get standings k ≡ Some s
    → s.found ≤ latest standings
latest-bounds [] k s at = absurd (none-some s at)
latest-bounds (t ∷ standings) zero s at =
    let same : t.found ≡ s.found = ap (λ (u : Paired). u.found) (same_Some t s at) in
    omega (arith, same)
latest-bounds (t ∷ standings) (suc k) s at = omega (arith, latest-bounds standings k s at)

-- no steps of a given number lead from a closed list of standings to a whole one where none of
-- fewer do, by induction on the moments that are left for takes that find nothing
dead-within : (reading : Reading) (book : List Page) (standings : List Paired) (few more : ℕ)
    → IsValid book → HasOneOpen book → AreClosed reading book standings
    → ((s : Paired) (steps : List PairStep) → IsOnePaired standings s
    → AreSteps reading book s steps
    → length steps < few → ⊥)
    → (s : Paired) (steps : List PairStep) → IsOnePaired standings s → AreSteps reading book s steps
    → length steps ≤ few → latest standings ≤ s.found + more → ⊥
dead-within reading book standings few zero valid one closed fewer s steps is are long found =
    let on = leads-on reading book standings s steps valid one is (closed s is) are in
    elim on.4 [
      | inl less ↦ fewer on.0 on.1 on.2 on.3 (omega (arith, less, long))
      | inr later ↦ omega (arith, later.1, latest-bounds standings on.2.0 on.0 on.2.1, found)
    ]
dead-within reading book standings few (suc more) valid one closed fewer s steps is are long found =
    let on = leads-on reading book standings s steps valid one is (closed s is) are in
    elim on.4 [
      | inl less ↦ fewer on.0 on.1 on.2 on.3 (omega (arith, less, long))
      | inr later ↦
          dead-within reading book standings few more valid one closed fewer on.0 on.1 on.2 on.3
          (omega (arith, later.0, long)) (omega (arith, later.1, found))
    ]

dead-below : (reading : Reading) (book : List Page) (standings : List Paired) (few : ℕ)
    → IsValid book → HasOneOpen book → AreClosed reading book standings
    → (s : Paired) (steps : List PairStep) → IsOnePaired standings s → AreSteps reading book s steps
    → length steps < few → ⊥
dead-below reading book standings zero valid one closed s steps is are long = omega (arith, long)
dead-below reading book standings (suc few) valid one closed s steps is are long =
    dead-within reading book standings few (latest standings) valid one closed
    (dead-below reading book standings few valid one closed) s steps is are
    (omega (arith, long)) (omega arith)

pub closed_standings_are_dead : ClosedStandingsAreDead
closed_standings_are_dead reading book standings s steps valid one closed is are =
    dead-below reading book standings (length steps + 1) valid one closed s steps is are
    (omega arith)

pub closed_starts_have_no_order : ClosedStartsHaveNoOrder
closed_starts_have_no_order reading spec book callers standings queue empty valid one closed is
    has =
    let fits : length book ≤ callers = omega
    (arith, (closed (none_paired callers) is).wide_puts, length-replicate {A = ℕ} callers 0) in
    let on = steps_from_order reading spec book callers queue empty valid one fits has in
    closed_standings_are_dead reading book standings (none_paired callers) on.0 valid one closed is
    on.1
