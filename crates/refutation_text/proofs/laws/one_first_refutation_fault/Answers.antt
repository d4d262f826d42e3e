use Rattle.refutation_text.proofs.Readings.{one_fault}
use Rattle.refutation_text.proofs.laws.one_first_refutation_fault.Goals as goal

pub returns : goal.returns
returns c = one_fault
