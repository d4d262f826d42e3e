use Rattle.std.proofs.Common.{refl}
use Rattle.seq_objects.specs.Words.{is_known_word, entry_of, entries}
use Rattle.judging_examples.proofs.keyed_calls.calls_of_a_map.Goals as goal

pub returns-clause-puts : goal.returns-clause-puts
unfolding is_known_word entry_of entries
returns-clause-puts c = refl

pub returns-clause-replaces : goal.returns-clause-replaces
unfolding is_known_word entry_of entries
returns-clause-replaces c = refl

pub returns-clause-gets : goal.returns-clause-gets
unfolding is_known_word entry_of entries
returns-clause-gets c = refl

pub returns-clause-misses : goal.returns-clause-misses
unfolding is_known_word entry_of entries
returns-clause-misses c = refl

pub returns-clause-deletes : goal.returns-clause-deletes
unfolding is_known_word entry_of entries
returns-clause-deletes c = refl

pub returns-clause-unanswered : goal.returns-clause-unanswered
unfolding is_known_word entry_of entries
returns-clause-unanswered c = refl
