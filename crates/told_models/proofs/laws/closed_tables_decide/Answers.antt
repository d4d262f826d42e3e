use Rattle.told_models.proofs.Agreeing.{closed_tables_decide}
use Rattle.told_models.proofs.laws.closed_tables_decide.Goals as goal

pub returns : goal.returns
returns c = closed_tables_decide
