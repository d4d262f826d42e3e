use Rattle.told_models.proofs.Rounds.{search_dialogues_end}
use Rattle.told_models.proofs.laws.dialogues_end.Goals as goal

pub returns : goal.returns
returns c = search_dialogues_end
