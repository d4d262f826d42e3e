use Rattle.certificate_text.proofs.FaultTexts.{leaves_texts}
use Rattle.certificate_text.proofs.laws.first_faults_leave_texts.Goals as goal

pub returns : goal.returns
returns c = leaves_texts
