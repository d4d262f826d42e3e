use Rattle.std.proofs.Common.{below_more, refl, arith}
use Rattle.std.proofs.lemmas.Bool.{false≢true, iff_false}
use Rattle.broken_rules.proofs.demand.caller_meets.Goals as goal

pub loop-number-preserved : goal.loop-number-preserved
loop-number-preserved c =
    below_more _ _ c.loop-number.invariant (c.meets.ensures.0 c.if-not-meets.false)

pub returns-then-not-meets : goal.returns-then-not-meets
returns-then-not-meets c = (
  λ e. absurd (false≢true e),
  λ all. absurd (iff_false c.meets.ensures c.if-not-meets.true
      (all c.loop-number.number (omega (arith, c.calls-number-end.ensures)))),
)

pub returns : goal.returns
returns c = (
  λ e number made. c.loop-number.invariant number (omega (arith, made, c.calls-number-end.ensures)),
  λ all. refl,
)
