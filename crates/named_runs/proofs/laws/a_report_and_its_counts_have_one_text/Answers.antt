use Rattle.named_runs.proofs.RunLemmas.{forms_write_one_text}
use Rattle.named_runs.proofs.laws.a_report_and_its_counts_have_one_text.Goals as goal

pub returns : goal.returns
returns c = forms_write_one_text
