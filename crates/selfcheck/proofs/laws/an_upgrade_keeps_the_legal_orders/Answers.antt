use Rattle.selfcheck.proofs.OutputLemmas.{upgrades_keep_orders}
use Rattle.selfcheck.proofs.laws.an_upgrade_keeps_the_legal_orders.Goals as goal

pub returns : goal.returns
returns c = upgrades_keep_orders
