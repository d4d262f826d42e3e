use Rattle.queue_pairs.proofs.Walking.{legal_orders_have_pairs}
use Rattle.queue_pairs.proofs.laws.legal_orders_have_pairs.Goals as goal

pub returns : goal.returns
returns c = legal_orders_have_pairs
