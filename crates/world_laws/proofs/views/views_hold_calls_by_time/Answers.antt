use Rattle.world_laws.proofs.Viewing.{views_hold_earlier, views_hold_no_later}
use Rattle.world_laws.proofs.views.views_hold_calls_by_time.Goals as goal

pub returns-clause-earlier : goal.returns-clause-earlier
returns-clause-earlier c = views_hold_earlier

pub returns-clause-no_later : goal.returns-clause-no_later
returns-clause-no_later c = views_hold_no_later
