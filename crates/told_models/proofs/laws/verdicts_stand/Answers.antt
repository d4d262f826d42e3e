use Rattle.told_models.proofs.Agreeing.{verdicts_stand}
use Rattle.told_models.proofs.laws.verdicts_stand.Goals as goal

pub returns : goal.returns
returns c = verdicts_stand
