use Rattle.collect_scan.proofs.Owning.{cuts_hold_given, cuts_hold_looks}
use Rattle.collect_scan.proofs.laws.cuts_rise.Goals as goal

pub returns-clause-given : goal.returns-clause-given
returns-clause-given c = cuts_hold_given

pub returns-clause-looked : goal.returns-clause-looked
returns-clause-looked c = cuts_hold_looks
