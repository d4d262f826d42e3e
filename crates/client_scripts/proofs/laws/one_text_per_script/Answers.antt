use Rattle.client_scripts.proofs.ReadTexts.{one_text}
use Rattle.client_scripts.proofs.laws.one_text_per_script.Goals as goal

pub returns : goal.returns
returns c = one_text
