use Rattle.std.proofs.Common.{refl}
use Rattle.seq_objects.specs.Words.{is_known_word, entry_of, entries}
use Rattle.judging_examples.proofs.smaller_books.keys_of_operations.Goals as goal

pub returns-clause-puts : goal.returns-clause-puts
unfolding is_known_word entry_of entries
returns-clause-puts c = refl

pub returns-clause-takes : goal.returns-clause-takes
unfolding is_known_word entry_of entries
returns-clause-takes c = refl

pub returns-clause-finds_none : goal.returns-clause-finds_none
unfolding is_known_word entry_of entries
returns-clause-finds_none c = refl

pub returns-clause-unanswered : goal.returns-clause-unanswered
unfolding is_known_word entry_of entries
returns-clause-unanswered c = refl

pub returns-clause-of_a_set : goal.returns-clause-of_a_set
unfolding is_known_word entry_of entries
returns-clause-of_a_set c = refl

pub returns-clause-of_a_map : goal.returns-clause-of_a_map
unfolding is_known_word entry_of entries
returns-clause-of_a_map c = refl

pub returns-clause-writes : goal.returns-clause-writes
unfolding is_known_word entry_of entries
returns-clause-writes c = refl

pub returns-clause-reads : goal.returns-clause-reads
unfolding is_known_word entry_of entries
returns-clause-reads c = refl

pub returns-clause-no_key : goal.returns-clause-no_key
unfolding is_known_word entry_of entries
returns-clause-no_key c = refl

pub returns-clause-unknown : goal.returns-clause-unknown
unfolding is_known_word entry_of entries
returns-clause-unknown c = refl
