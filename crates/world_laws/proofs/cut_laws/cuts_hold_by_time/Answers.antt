use Rattle.world_laws.proofs.Spanning.{cuts_hold_earlier, cuts_hold_no_later, cuts_hold_own, cuts_tell_since}
use Rattle.world_laws.proofs.cut_laws.cuts_hold_by_time.Goals as goal

pub returns-clause-earlier : goal.returns-clause-earlier
returns-clause-earlier c = cuts_hold_earlier

pub returns-clause-no_later : goal.returns-clause-no_later
returns-clause-no_later c = cuts_hold_no_later

pub returns-clause-own : goal.returns-clause-own
returns-clause-own c = cuts_hold_own

pub returns-clause-since : goal.returns-clause-since
returns-clause-since c = cuts_tell_since
