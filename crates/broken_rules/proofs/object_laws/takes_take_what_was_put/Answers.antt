use Rattle.broken_rules.proofs.Taking.{queues_take_what_was_put, stacks_take_what_was_put}
use Rattle.broken_rules.proofs.Rising.{pqueues_take_what_was_put}
use Rattle.broken_rules.proofs.object_laws.takes_take_what_was_put.Goals as goal

pub returns-clause-queues : goal.returns-clause-queues
returns-clause-queues c = queues_take_what_was_put

pub returns-clause-stacks : goal.returns-clause-stacks
returns-clause-stacks c = stacks_take_what_was_put

pub returns-clause-pqueues : goal.returns-clause-pqueues
returns-clause-pqueues c = pqueues_take_what_was_put
