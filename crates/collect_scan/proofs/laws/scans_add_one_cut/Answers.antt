use Rattle.collect_scan.proofs.AfterScans.{scans_add_their_cut, scans_leave_work}
use Rattle.collect_scan.proofs.laws.scans_add_one_cut.Goals as goal

pub returns-clause-cut : goal.returns-clause-cut
returns-clause-cut c = scans_add_their_cut

pub returns-clause-work : goal.returns-clause-work
returns-clause-work c = scans_leave_work
