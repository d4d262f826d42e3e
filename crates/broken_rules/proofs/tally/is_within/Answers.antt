use Rattle.broken_rules.proofs.Within.{within_is}
use Rattle.broken_rules.proofs.tally.is_within.Goals as goal

pub returns : goal.returns
returns c = within_is c.args.cut.now c.args.other.now c.within.ensures
