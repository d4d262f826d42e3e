use Rattle.std.proofs.Common.{refl}
use Rattle.std.proofs.lemmas.Bool.{iff_false}
use Rattle.broken_rules.proofs.demand.take_is_only.Goals as goal

pub returns-then-takes_value : goal.returns-then-takes_value
returns-then-takes_value c = (
  λ yes does. c.is_same.ensures.0 yes,
  λ so. c.is_same.ensures.1 (so (c.takes_value.ensures.0 c.if-takes_value.true)),
)

pub returns-else-takes_value : goal.returns-else-takes_value
returns-else-takes_value c =
    (λ yes does. absurd (iff_false c.takes_value.ensures c.if-takes_value.false does), λ so. refl)
