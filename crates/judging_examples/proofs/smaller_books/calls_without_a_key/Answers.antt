use Rattle.std.proofs.Common.{refl}
use Rattle.seq_objects.specs.Words.{is_known_word, entry_of, entries}
use Rattle.judging_examples.proofs.smaller_books.calls_without_a_key.Goals as goal

pub returns-clause-value : goal.returns-clause-value
unfolding is_known_word entry_of entries
returns-clause-value c = refl

pub returns-clause-values : goal.returns-clause-values
unfolding is_known_word entry_of entries
returns-clause-values c = refl

pub returns-clause-no_call : goal.returns-clause-no_call
unfolding is_known_word entry_of entries
returns-clause-no_call c = refl

pub returns-clause-of_a_set : goal.returns-clause-of_a_set
unfolding is_known_word entry_of entries
returns-clause-of_a_set c = refl

pub returns-clause-other_of_a_set : goal.returns-clause-other_of_a_set
unfolding is_known_word entry_of entries
returns-clause-other_of_a_set c = refl
