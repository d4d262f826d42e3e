use Rattle.legal_orders.proofs.Exchange.{goes_on_with_it}
use Rattle.legal_orders.proofs.pruning_laws.read_only_calls_stand_at_once.Goals as goal

pub returns : goal.returns
returns c = goes_on_with_it
