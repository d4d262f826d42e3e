use Rattle.std.proofs.Common.{◌≡◌, ℕ, ◌<◌, ◌∙◌, Some, subst, inl, inr, slice_get, arith}
use Rattle.std.proofs.lemmas.Bool.{cases_lt}
use Rattle.std.proofs.lemmas.Option.{slice_get_within}
use Rattle.refutations.proofs.closed.first_open.Goals as goal

pub loop-e-preserved : goal.loop-e-preserved
loop-e-preserved g c =
    let closed = rw c.in-None.is at c.in_ok-fault.ensures.closed in
    record {
      room = c.in_ok-fault.ensures.room ∙ c.loop-e.invariant.room;
      closed = λ list listed k item less at. elim (cases_lt k c.loop-e.e) [
        | inl below ↦ c.loop-e.invariant.closed list listed k item below at
        | inr not_below ↦
            let same : k ≡ c.loop-e.e = omega (arith, less, not_below) in
            closed list listed item (subst (λ (n : ℕ). slice_get list n ≡ Some item) same at)
      ];
    }

pub returns-clause-closed : goal.returns-clause-closed
returns-clause-closed g c list listed item one =
    let below : one.0 < c.loop-e.e = omega (
      arith,
      slice_get_within list one.0 item one.1,
      listed.long,
      c.len-e-end.ensures,
      c.loop-e-test.false,
    ) in
    c.loop-e.invariant.closed list listed one.0 item below one.1
