use Rattle.stream_examples.proofs.Refused.{one_too_many_is_illegal, no_step}
use Rattle.stream_examples.proofs.laws.one_reply_refutes.Goals as goal

pub returns-clause-illegal : goal.returns-clause-illegal
returns-clause-illegal c = one_too_many_is_illegal

pub returns-clause-step : goal.returns-clause-step
returns-clause-step c = no_step
