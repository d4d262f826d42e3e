use Rattle.std.proofs.Common.{refl}
use Rattle.std.proofs.lemmas.Bool.{iff_false}
use Rattle.broken_rules.proofs.demand.removal_is_outside.Goals as goal

pub returns-then-removes_key : goal.returns-then-removes_key
returns-then-removes_key c = (
  λ yes does. c.is_outside.ensures.0 yes,
  λ so. c.is_outside.ensures.1 (so (c.removes_key.ensures.0 c.if-removes_key.true)),
)

pub returns-else-removes_key : goal.returns-else-removes_key
returns-else-removes_key c =
    (λ yes does. absurd (iff_false c.removes_key.ensures c.if-removes_key.false does), λ so. refl)
