use Rattle.stream_examples.proofs.Refused.{empty_is_valid, idle_is_not_valid, busy_is_not_valid}
use Rattle.stream_examples.proofs.laws.some_streams_are_not_valid.Goals as goal

pub returns-clause-empty : goal.returns-clause-empty
returns-clause-empty c = empty_is_valid

pub returns-clause-idle : goal.returns-clause-idle
returns-clause-idle c = idle_is_not_valid

pub returns-clause-busy : goal.returns-clause-busy
returns-clause-busy c = busy_is_not_valid
