use Rattle.std.proofs.Common.{refl}
use Rattle.std.specs.Fmt.{digits}
use Rattle.seq_objects.specs.Words.{entries, entry_of, operation_words, operation_text}
use Rattle.seq_objects.specs.Replies.{named_replies, named_reply, reply_word}
use Rattle.seq_objects.specs.Objects.{kind_next}
use Rattle.judging_examples.proofs.steps.worked_counter_steps.Goals as goal

pub returns-clause-counts : goal.returns-clause-counts
unfolding digits entries entry_of operation_words operation_text named_replies named_reply
    reply_word kind_next
returns-clause-counts c = record { text = refl; list = refl; reply = refl }

pub returns-clause-counts_an_empty_list : goal.returns-clause-counts_an_empty_list
unfolding digits entries entry_of operation_words operation_text named_replies named_reply
    reply_word kind_next
returns-clause-counts_an_empty_list c = record { text = refl; list = refl; reply = refl }

pub returns-clause-goes_on_with_zero : goal.returns-clause-goes_on_with_zero
unfolding digits entries entry_of operation_words operation_text named_replies named_reply
    reply_word kind_next
returns-clause-goes_on_with_zero c = record { text = refl; list = refl; reply = refl }

pub returns-clause-counts_the_low_bits : goal.returns-clause-counts_the_low_bits
unfolding digits entries entry_of operation_words operation_text named_replies named_reply
    reply_word kind_next
returns-clause-counts_the_low_bits c = record { text = refl; list = refl; reply = refl }

pub returns-clause-leaves_an_argument : goal.returns-clause-leaves_an_argument
unfolding digits entries entry_of operation_words operation_text named_replies named_reply
    reply_word kind_next
returns-clause-leaves_an_argument c = record { text = refl; list = refl; reply = refl }

pub returns-clause-leaves_an_unknown_word : goal.returns-clause-leaves_an_unknown_word
unfolding digits entries entry_of operation_words operation_text named_replies named_reply
    reply_word kind_next
returns-clause-leaves_an_unknown_word c = record { text = refl; list = refl; reply = refl }
