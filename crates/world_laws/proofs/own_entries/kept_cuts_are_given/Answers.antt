use Rattle.world_laws.proofs.Giving.{views_are_given, seen_cuts_are_given, embedded_cuts_are_given}
use Rattle.world_laws.proofs.own_entries.kept_cuts_are_given.Goals as goal

pub returns-clause-views : goal.returns-clause-views
returns-clause-views c = views_are_given

pub returns-clause-seen : goal.returns-clause-seen
returns-clause-seen c = seen_cuts_are_given

pub returns-clause-embedded : goal.returns-clause-embedded
returns-clause-embedded c = embedded_cuts_are_given
