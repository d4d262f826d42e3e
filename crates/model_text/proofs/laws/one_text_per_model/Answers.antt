use Rattle.model_text.proofs.ReadTexts as from
use Rattle.model_text.proofs.laws.one_text_per_model.Goals as goal

pub returns : goal.returns
returns c = from.one_text
