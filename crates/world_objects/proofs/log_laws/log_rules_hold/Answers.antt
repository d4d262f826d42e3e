use Rattle.world_objects.proofs.LogSteps.{log_rules_hold, tickets_stay}
use Rattle.world_objects.proofs.log_laws.log_rules_hold.Goals as goal

pub returns-clause-rules : goal.returns-clause-rules
returns-clause-rules c = log_rules_hold

pub returns-clause-tickets : goal.returns-clause-tickets
returns-clause-tickets c = tickets_stay
