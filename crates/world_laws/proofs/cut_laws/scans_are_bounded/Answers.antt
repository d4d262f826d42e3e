use Rattle.world_laws.proofs.Bounding.{scans_are_bounded, scans_are_bounded_in_runs, ended_scans_are_bounded}
use Rattle.world_laws.proofs.cut_laws.scans_are_bounded.Goals as goal

pub returns-clause-locals : goal.returns-clause-locals
returns-clause-locals c = scans_are_bounded

pub returns-clause-runs : goal.returns-clause-runs
returns-clause-runs c = scans_are_bounded_in_runs

pub returns-clause-ended : goal.returns-clause-ended
returns-clause-ended c = ended_scans_are_bounded
