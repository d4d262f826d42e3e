use Rattle.world_laws.proofs.Judging.{no_run_has_this_error, no_run_has_this_error_seen}
use Rattle.world_laws.proofs.verdicts.no_run_has_this_error.Goals as goal

pub returns-clause-cuts : goal.returns-clause-cuts
returns-clause-cuts c = no_run_has_this_error

pub returns-clause-seen : goal.returns-clause-seen
returns-clause-seen c = no_run_has_this_error_seen
