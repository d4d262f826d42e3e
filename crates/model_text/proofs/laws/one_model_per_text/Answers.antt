use Rattle.model_text.proofs.Readings as from
use Rattle.model_text.proofs.laws.one_model_per_text.Goals as goal

pub returns : goal.returns
returns c = from.one_model
