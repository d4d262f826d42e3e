use Rattle.pair_refutations.proofs.Faults.{first_faults_are_one}
use Rattle.pair_refutations.proofs.laws.first_faults_are_one.Goals as goal

pub returns : goal.returns
returns c = first_faults_are_one
