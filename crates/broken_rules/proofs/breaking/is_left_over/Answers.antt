use Rattle.std.proofs.lemmas.Bool.{false≢true, iff_false}
use Rattle.broken_rules.proofs.breaking.is_left_over.Goals as goal

pub returns-then-precedes : goal.returns-then-precedes
returns-then-precedes c = (
  λ yes. (c.precedes.ensures.0 c.if-precedes.true, c.counts_more.ensures.0 yes),
  λ so. c.counts_more.ensures.1 so.1,
)

pub returns-else-precedes : goal.returns-else-precedes
returns-else-precedes c = (
  λ e. absurd (false≢true e),
  λ so. absurd (iff_false c.precedes.ensures c.if-precedes.false so.0),
)
