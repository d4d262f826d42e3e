use Rattle.certificate_text.proofs.Readings.{no_fault}
use Rattle.certificate_text.proofs.laws.no_fault_of_a_text.Goals as goal

pub returns : goal.returns
returns c = no_fault
