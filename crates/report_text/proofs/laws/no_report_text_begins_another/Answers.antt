use Rattle.report_text.proofs.Readings as lemmas
use Rattle.report_text.proofs.laws.no_report_text_begins_another.Goals as goal

pub returns : goal.returns
returns c = lemmas.no_prefix
