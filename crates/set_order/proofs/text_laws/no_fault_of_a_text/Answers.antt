use Rattle.set_order.proofs.SharpSetBooks as from
use Rattle.set_order.proofs.text_laws.no_fault_of_a_text.Goals as goal

pub returns : goal.returns
returns c = from.no_first_fault
