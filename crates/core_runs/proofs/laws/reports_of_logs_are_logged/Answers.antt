use Rattle.core_runs.proofs.LoggedReports.{reports_of_logs_are_logged}
use Rattle.core_runs.proofs.laws.reports_of_logs_are_logged.Goals as goal

pub returns : goal.returns
returns c = reports_of_logs_are_logged
