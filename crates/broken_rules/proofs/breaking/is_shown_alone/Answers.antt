use Rattle.std.proofs.lemmas.Bool.{false≢true, iff_false}
use Rattle.broken_rules.proofs.breaking.is_shown_alone.Goals as goal

pub returns-then-is_same : goal.returns-then-is_same
returns-then-is_same c = (
  λ yes. (c.is_same.ensures.0 c.if-is_same.true, c.shows_entry.ensures.0 yes),
  λ so. c.shows_entry.ensures.1 so.1,
)

pub returns-else-is_same : goal.returns-else-is_same
returns-else-is_same c = (
  λ e. absurd (false≢true e),
  λ so. absurd (iff_false c.is_same.ensures c.if-is_same.false so.0),
)
