use Rattle.pool_residue.proofs.Lawful.{puts_return}
use Rattle.pool_residue.proofs.laws.puts_return.Goals as goal

pub returns : goal.returns
returns c = puts_return
