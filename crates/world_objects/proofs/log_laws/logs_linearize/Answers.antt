use Rattle.world_objects.proofs.LogEffects.{logs_linearize}
use Rattle.world_objects.proofs.LogOrders.{log_orders_are_of_tickets}
use Rattle.world_objects.proofs.log_laws.logs_linearize.Goals as goal

pub returns-clause-linearizable : goal.returns-clause-linearizable
returns-clause-linearizable c = logs_linearize

pub returns-clause-order : goal.returns-clause-order
returns-clause-order c = log_orders_are_of_tickets
