use Rattle.broken_rules.proofs.Ordering.{dequeues_give_the_oldest, enqueues_are_done}
use Rattle.broken_rules.proofs.object_laws.queues_give_the_oldest.Goals as goal

pub returns-clause-order : goal.returns-clause-order
returns-clause-order c = dequeues_give_the_oldest

pub returns-clause-done : goal.returns-clause-done
returns-clause-done c = enqueues_are_done
