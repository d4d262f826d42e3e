use Rattle.broken_rules.proofs.Refuting.{what_breaks_is_illegal}
use Rattle.broken_rules.proofs.laws.what_breaks_is_illegal.Goals as goal

pub returns : goal.returns
returns c = what_breaks_is_illegal
