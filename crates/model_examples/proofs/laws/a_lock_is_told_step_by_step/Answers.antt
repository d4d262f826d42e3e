use Rattle.std.proofs.Common.{refl}
use Rattle.model_examples.specs.Locks.{other_lock}
use Rattle.model_examples.proofs.Lock.{first_ask, lock_extends, lock_closed, lock_agrees, lock_words}
use Rattle.model_examples.proofs.TwoCalls.{two_calls_are_legal}
use Rattle.model_examples.proofs.laws.a_lock_is_told_step_by_step.Goals as goal

pub returns-clause-first : goal.returns-clause-first
returns-clause-first c = first_ask

pub returns-clause-extends : goal.returns-clause-extends
returns-clause-extends c = lock_extends

pub returns-clause-closed : goal.returns-clause-closed
returns-clause-closed c = lock_closed

pub returns-clause-agrees : goal.returns-clause-agrees
returns-clause-agrees c = lock_agrees

pub returns-clause-words : goal.returns-clause-words
returns-clause-words c = lock_words

pub returns-clause-legal : goal.returns-clause-legal
returns-clause-legal c = two_calls_are_legal other_lock 1 1 1 0 refl refl
