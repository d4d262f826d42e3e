use Rattle.report_text.proofs.FaultTexts.{report_leaves_texts}
use Rattle.report_text.proofs.laws.first_faults_leave_texts.Goals as goal

pub returns : goal.returns
returns c = report_leaves_texts
