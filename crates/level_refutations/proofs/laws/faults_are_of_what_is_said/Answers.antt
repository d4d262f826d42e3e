use Rattle.level_refutations.proofs.Alike.{faults_are_of_what_is_said}
use Rattle.level_refutations.proofs.laws.faults_are_of_what_is_said.Goals as goal

pub returns : goal.returns
returns c = faults_are_of_what_is_said
