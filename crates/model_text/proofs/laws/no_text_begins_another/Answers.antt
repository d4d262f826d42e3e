use Rattle.model_text.proofs.Readings as from
use Rattle.model_text.proofs.laws.no_text_begins_another.Goals as goal

pub returns : goal.returns
returns c = from.no_prefix
