use Rattle.model_text.proofs.Readings as from
use Rattle.model_text.proofs.laws.one_first_fault.Goals as goal

pub returns : goal.returns
returns c = from.one_fault
