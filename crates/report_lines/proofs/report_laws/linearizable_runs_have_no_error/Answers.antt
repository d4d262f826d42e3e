use Rattle.report_lines.proofs.Runs.{linearizable_runs_have_no_error}
use Rattle.report_lines.proofs.report_laws.linearizable_runs_have_no_error.Goals as goal

pub returns : goal.returns
returns c = linearizable_runs_have_no_error
