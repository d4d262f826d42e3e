use Rattle.world_laws.proofs.Giving.{views_rise, seen_cuts_rise}
use Rattle.world_laws.proofs.own_entries.kept_cuts_rise.Goals as goal

pub returns-clause-views : goal.returns-clause-views
returns-clause-views c = views_rise

pub returns-clause-seen : goal.returns-clause-seen
returns-clause-seen c = seen_cuts_rise
