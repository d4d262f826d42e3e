use Rattle.report_text.proofs.Readings as lemmas
use Rattle.report_text.proofs.laws.one_report_per_text.Goals as goal

pub returns : goal.returns
returns c = lemmas.one_report
