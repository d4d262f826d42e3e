use Rattle.certificate_text.proofs.Readings.{one_fault}
use Rattle.certificate_text.proofs.laws.one_first_fault.Goals as goal

pub returns : goal.returns
returns c = one_fault
