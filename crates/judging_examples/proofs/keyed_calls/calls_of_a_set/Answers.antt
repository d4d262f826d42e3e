use Rattle.std.proofs.Common.{refl}
use Rattle.seq_objects.specs.Words.{is_known_word, entry_of, entries}
use Rattle.judging_examples.proofs.keyed_calls.calls_of_a_set.Goals as goal

pub returns-clause-adds : goal.returns-clause-adds
unfolding is_known_word entry_of entries
returns-clause-adds c = refl

pub returns-clause-adds_again : goal.returns-clause-adds_again
unfolding is_known_word entry_of entries
returns-clause-adds_again c = refl

pub returns-clause-looks : goal.returns-clause-looks
unfolding is_known_word entry_of entries
returns-clause-looks c = refl

pub returns-clause-misses : goal.returns-clause-misses
unfolding is_known_word entry_of entries
returns-clause-misses c = refl

pub returns-clause-removes : goal.returns-clause-removes
unfolding is_known_word entry_of entries
returns-clause-removes c = refl

pub returns-clause-removes_again : goal.returns-clause-removes_again
unfolding is_known_word entry_of entries
returns-clause-removes_again c = refl

pub returns-clause-unanswered : goal.returns-clause-unanswered
unfolding is_known_word entry_of entries
returns-clause-unanswered c = refl
