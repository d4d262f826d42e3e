use Rattle.client_scripts.proofs.FaultTexts.{script_leaves_texts}
use Rattle.client_scripts.proofs.laws.first_faults_leave_texts.Goals as goal

pub returns : goal.returns
returns c = script_leaves_texts
