use Rattle.model_text.proofs.ReadTexts as from
use Rattle.model_text.proofs.laws.a_text_is_its_lines.Goals as goal

pub returns : goal.returns
returns c = from.a_text_is_its_lines
