use Rattle.report_lines.proofs.Finality.{errors_are_final}
use Rattle.report_lines.proofs.report_laws.errors_are_final.Goals as goal

pub returns : goal.returns
returns c = errors_are_final
