use Rattle.stream_examples.proofs.Crash.{crashed_is_valid, both_are_legal, lost_one_is_late}
use Rattle.stream_examples.proofs.laws.a_lost_call_may_take_effect.Goals as goal

pub returns-clause-valid : goal.returns-clause-valid
returns-clause-valid c = crashed_is_valid

pub returns-clause-legal : goal.returns-clause-legal
returns-clause-legal c = both_are_legal

pub returns-clause-late : goal.returns-clause-late
returns-clause-late c = lost_one_is_late
