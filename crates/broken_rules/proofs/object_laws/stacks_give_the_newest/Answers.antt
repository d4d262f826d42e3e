use Rattle.broken_rules.proofs.Covering.{pops_give_the_newest, pushes_are_done}
use Rattle.broken_rules.proofs.object_laws.stacks_give_the_newest.Goals as goal

pub returns-clause-order : goal.returns-clause-order
returns-clause-order c = pops_give_the_newest

pub returns-clause-done : goal.returns-clause-done
returns-clause-done c = pushes_are_done
