use Rattle.residue_laws.proofs.Lookahead.{agreeing_ones_decide, agreeing_ones_step}
use Rattle.residue_laws.proofs.laws.agreeing_ones_suffice.Goals as goal

pub returns-clause-decide : goal.returns-clause-decide
returns-clause-decide c = agreeing_ones_decide

pub returns-clause-step : goal.returns-clause-step
returns-clause-step c = agreeing_ones_step
