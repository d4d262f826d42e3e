use Rattle.refutations.proofs.Faults.{first_faults_are_one}
use Rattle.refutations.proofs.laws.first_faults_are_one.Goals as goal

pub returns : goal.returns
returns c = first_faults_are_one
