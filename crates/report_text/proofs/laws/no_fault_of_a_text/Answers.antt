use Rattle.report_text.proofs.Readings as lemmas
use Rattle.report_text.proofs.laws.no_fault_of_a_text.Goals as goal

pub returns : goal.returns
returns c = lemmas.no_first_fault
