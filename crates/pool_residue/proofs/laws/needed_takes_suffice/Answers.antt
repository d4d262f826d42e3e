use Rattle.pool_residue.proofs.Lawful.{placed_calls_lead_on}
use Rattle.pool_residue.proofs.laws.needed_takes_suffice.Goals as goal

pub returns : goal.returns
returns c = placed_calls_lead_on
