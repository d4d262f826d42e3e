use Rattle.model_checks.proofs.Histories.{precedence_is_told}
use Rattle.model_checks.proofs.laws.precedence_is_told.Goals as goal

pub returns : goal.returns
returns c = precedence_is_told
