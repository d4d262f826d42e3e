use Rattle.refutation_text.proofs.Readings.{no_fault}
use Rattle.refutation_text.proofs.laws.no_fault_of_a_refutation.Goals as goal

pub returns : goal.returns
returns c = no_fault
