use Rattle.collect_scan.proofs.Owning.{view_scans_have_phase}
use Rattle.collect_scan.proofs.laws.view_scans_have_phase.Goals as goal

pub returns : goal.returns
returns c = view_scans_have_phase
