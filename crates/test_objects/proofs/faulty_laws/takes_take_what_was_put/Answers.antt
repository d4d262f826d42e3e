use Rattle.test_objects.proofs.FaultyTogether.{queues_give_places_in_order, queues_give_what_was_put}
use Rattle.test_objects.proofs.faulty_laws.takes_take_what_was_put.Goals as goal

pub returns-clause-places : goal.returns-clause-places
returns-clause-places c = queues_give_places_in_order

pub returns-clause-items : goal.returns-clause-items
returns-clause-items c = queues_give_what_was_put
