use Rattle.broken_rules.proofs.Rising.{mins_give_the_least, comes_out_at_most_as_often, inserts_are_done}
use Rattle.broken_rules.proofs.object_laws.priority_queues_give_the_least.Goals as goal

pub returns-clause-least : goal.returns-clause-least
returns-clause-least c = mins_give_the_least

pub returns-clause-often : goal.returns-clause-often
returns-clause-often c = comes_out_at_most_as_often

pub returns-clause-done : goal.returns-clause-done
returns-clause-done c = inserts_are_done
