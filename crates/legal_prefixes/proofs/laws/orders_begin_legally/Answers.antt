use Rattle.legal_prefixes.proofs.Leading.{orders_begin_legally}
use Rattle.legal_prefixes.proofs.laws.orders_begin_legally.Goals as goal

pub returns : goal.returns
returns c = orders_begin_legally
