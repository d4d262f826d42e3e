use Rattle.std.proofs.Common.{refl}
use Rattle.std.proofs.lemmas.Bool.{iff_false}
use Rattle.broken_rules.proofs.demand.take_follows.Goals as goal

pub returns-then-may_take_value : goal.returns-then-may_take_value
returns-then-may_take_value c = (
  λ yes does. c.precedes.ensures.0 yes,
  λ so. c.precedes.ensures.1 (so (c.may_take_value.ensures.0 c.if-may_take_value.true)),
)

pub returns-else-may_take_value : goal.returns-else-may_take_value
returns-else-may_take_value c = (
  λ yes does. absurd (iff_false c.may_take_value.ensures c.if-may_take_value.false does),
  λ so. refl,
)
