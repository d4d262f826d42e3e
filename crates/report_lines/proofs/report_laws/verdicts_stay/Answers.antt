use Rattle.report_lines.proofs.Workers.{verdicts_stay}
use Rattle.report_lines.proofs.report_laws.verdicts_stay.Goals as goal

pub returns : goal.returns
returns c = verdicts_stay
