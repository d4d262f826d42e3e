use Rattle.model_text.proofs.FaultTexts as from
use Rattle.model_text.proofs.laws.first_faults_leave_texts.Goals as goal

pub returns : goal.returns
returns c = from.leaves_texts
