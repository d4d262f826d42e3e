use Rattle.core_runs.proofs.CoreLogs.{runs_of_logs_are_logged}
use Rattle.core_runs.proofs.call_laws.runs_of_logs_are_logged.Goals as goal

pub returns : goal.returns
returns c = runs_of_logs_are_logged
