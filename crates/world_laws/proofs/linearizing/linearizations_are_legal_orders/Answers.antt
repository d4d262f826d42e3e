use Rattle.world_laws.proofs.LegalOrders.{linearizations_are_legal_orders}
use Rattle.world_laws.proofs.linearizing.linearizations_are_legal_orders.Goals as goal

pub returns : goal.returns
returns c = linearizations_are_legal_orders
