use Rattle.model_text.proofs.Readings as from
use Rattle.model_text.proofs.laws.no_fault_of_a_text.Goals as goal

pub returns : goal.returns
returns c = from.no_fault
