use Rattle.report_text.proofs.ReadTexts as lemmas
use Rattle.report_text.proofs.laws.one_text_per_report.Goals as goal

pub returns : goal.returns
returns c = lemmas.one_text
