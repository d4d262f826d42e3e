use Rattle.pool_residue.proofs.Lawful.{calls_stay}
use Rattle.pool_residue.proofs.laws.calls_need_no_description.Goals as goal

pub returns : goal.returns
returns c = calls_stay
