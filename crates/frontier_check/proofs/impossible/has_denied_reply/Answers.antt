use Rattle.std.proofs.Common.{◌≡◌, ℕ, ◌≤◌, slice_index, sym, subst, inl, inr, arith}
use Rattle.std.proofs.lemmas.Bool.{cases_lt}
use Rattle.frontier_check.proofs.Tested.{tested_at_caller}
use Rattle.frontier_check.proofs.impossible.has_denied_reply.Goals as goal

pub returns-then-has_denied_reply_of-clause-denied :
    goal.returns-then-has_denied_reply_of-clause-denied
returns-then-has_denied_reply_of-clause-denied g c said =
    let found = c.has_denied_reply_of.ensures.denied c.if-has_denied_reply_of.true in (
      record { caller = c.loop-caller.caller; number = found.0 },
      omega (arith, found.1, c.get.ensures),
      found.2,
    )

pub loop-caller-preserved : goal.loop-caller-preserved
loop-caller-preserved g c call answered less least =
    elim (cases_lt call.caller c.loop-caller.caller) [
      | inl earlier ↦ c.loop-caller.invariant call answered earlier least
      | inr most ↦
          let same : c.loop-caller.caller ≡ call.caller = omega (arith, most, less) in
          let first : slice_index c.args.cut.now c.loop-caller.caller ≤ call.number =
          subst (λ (i : ℕ). slice_index c.args.cut.now i ≤ call.number) (sym same) least in
          tested_at_caller _ _ c.loop-caller.caller call same
          (λ there. c.has_denied_reply_of.ensures.allowed c.if-has_denied_reply_of.false call.number
          (omega (arith, first, c.get.ensures)) there) answered
    ]
