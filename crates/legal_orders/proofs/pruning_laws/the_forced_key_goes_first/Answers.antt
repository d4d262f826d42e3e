use Rattle.legal_orders.proofs.Bringing.{forced_key_goes_first}
use Rattle.legal_orders.proofs.pruning_laws.the_forced_key_goes_first.Goals as goal

pub returns : goal.returns
returns c = forced_key_goes_first
