use Rattle.told_models.proofs.Agreeing.{completions_agree}
use Rattle.told_models.proofs.laws.some_object_agrees.Goals as goal

pub returns : goal.returns
returns c = completions_agree
