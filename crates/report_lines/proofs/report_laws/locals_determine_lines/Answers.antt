use Rattle.report_lines.proofs.Determined.{locals_determine_lines}
use Rattle.report_lines.proofs.report_laws.locals_determine_lines.Goals as goal

pub returns : goal.returns
returns c = locals_determine_lines
