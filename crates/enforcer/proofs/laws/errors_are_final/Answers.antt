use Rattle.enforcer.proofs.Outcomes as outcomes
use Rattle.enforcer.proofs.laws.errors_are_final.Goals as goal

pub returns : goal.returns
returns c = outcomes.errors_are_final
