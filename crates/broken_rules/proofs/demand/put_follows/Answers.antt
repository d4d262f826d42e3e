use Rattle.std.proofs.Common.{refl}
use Rattle.std.proofs.lemmas.Bool.{iff_false}
use Rattle.broken_rules.proofs.demand.put_follows.Goals as goal

pub returns-then-puts_value : goal.returns-then-puts_value
returns-then-puts_value c = (
  λ yes does. c.precedes.ensures.0 yes,
  λ so. c.precedes.ensures.1 (so (c.puts_value.ensures.0 c.if-puts_value.true)),
)

pub returns-else-puts_value : goal.returns-else-puts_value
returns-else-puts_value c =
    (λ yes does. absurd (iff_false c.puts_value.ensures c.if-puts_value.false does), λ so. refl)
