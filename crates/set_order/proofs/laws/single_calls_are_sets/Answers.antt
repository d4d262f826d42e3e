use Rattle.set_order.proofs.Singles.{alone_law}
use Rattle.set_order.proofs.laws.single_calls_are_sets.Goals as goal

pub returns : goal.returns
returns c = alone_law
