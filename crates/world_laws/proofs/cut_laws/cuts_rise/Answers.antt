use Rattle.world_laws.proofs.Ordering.{cuts_rise, cuts_hold_looked, cuts_have_since}
use Rattle.world_laws.proofs.cut_laws.cuts_rise.Goals as goal

pub returns-clause-cuts : goal.returns-clause-cuts
returns-clause-cuts c = cuts_rise

pub returns-clause-looked : goal.returns-clause-looked
returns-clause-looked c = cuts_hold_looked

pub returns-clause-since : goal.returns-clause-since
returns-clause-since c = cuts_have_since
