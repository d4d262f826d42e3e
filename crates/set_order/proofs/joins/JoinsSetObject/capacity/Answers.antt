use Rattle.std.proofs.Common.{[], ◌∷◌, arith}
use Rattle.set_order.specs.ServingLaws.{served_joins-small}
use Rattle.set_order.proofs.joins.JoinsSetObject.capacity.Goals as goal

pub returns-clause-fits : goal.returns-clause-fits
returns-clause-fits c sets later to few = served_joins-small (0 ∷ []) sets later (omega arith) to
