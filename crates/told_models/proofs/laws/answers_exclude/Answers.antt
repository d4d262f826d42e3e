use Rattle.told_models.proofs.Agreeing.{answers_exclude}
use Rattle.told_models.proofs.laws.answers_exclude.Goals as goal

pub returns : goal.returns
returns c = answers_exclude
