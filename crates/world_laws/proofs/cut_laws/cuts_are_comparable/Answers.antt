use Rattle.world_laws.proofs.Instants.{cuts_are_comparable, given_cuts_are_comparable, views_are_comparable, seen_cuts_are_comparable}
use Rattle.world_laws.proofs.cut_laws.cuts_are_comparable.Goals as goal

pub returns-clause-runs : goal.returns-clause-runs
returns-clause-runs c = cuts_are_comparable

pub returns-clause-locals : goal.returns-clause-locals
returns-clause-locals c = given_cuts_are_comparable

pub returns-clause-views : goal.returns-clause-views
returns-clause-views c = views_are_comparable

pub returns-clause-seen : goal.returns-clause-seen
returns-clause-seen c = seen_cuts_are_comparable
