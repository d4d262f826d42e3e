use Rattle.report_text.proofs.Readings as lemmas
use Rattle.report_text.proofs.laws.one_first_fault.Goals as goal

pub returns : goal.returns
returns c = lemmas.one_first_fault
