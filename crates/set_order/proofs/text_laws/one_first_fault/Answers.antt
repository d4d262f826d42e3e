use Rattle.set_order.proofs.SharpSetBooks as from
use Rattle.set_order.proofs.text_laws.one_first_fault.Goals as goal

pub returns : goal.returns
returns c = from.one_first_fault
