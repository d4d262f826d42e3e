use Rattle.std.proofs.Common.{refl}
use Rattle.std.specs.Fmt.{digits}
use Rattle.seq_objects.specs.Words.{entries, entry_of, operation_words, operation_text}
use Rattle.seq_objects.specs.Replies.{named_replies, named_reply, reply_word}
use Rattle.seq_objects.specs.Objects.{kind_next}
use Rattle.judging_examples.proofs.steps.worked_pqueue_steps.Goals as goal

pub returns-clause-inserts_in_order : goal.returns-clause-inserts_in_order
unfolding digits entries entry_of operation_words operation_text named_replies named_reply
    reply_word kind_next
returns-clause-inserts_in_order c = record { text = refl; list = refl; reply = refl }

pub returns-clause-inserts_before_the_first_greater :
    goal.returns-clause-inserts_before_the_first_greater
unfolding digits entries entry_of operation_words operation_text named_replies named_reply
    reply_word kind_next
returns-clause-inserts_before_the_first_greater c =
    record { text = refl; list = refl; reply = refl }

pub returns-clause-inserts_at_the_end : goal.returns-clause-inserts_at_the_end
unfolding digits entries entry_of operation_words operation_text named_replies named_reply
    reply_word kind_next
returns-clause-inserts_at_the_end c = record { text = refl; list = refl; reply = refl }

pub returns-clause-takes_the_first : goal.returns-clause-takes_the_first
unfolding digits entries entry_of operation_words operation_text named_replies named_reply
    reply_word kind_next
returns-clause-takes_the_first c = record { text = refl; list = refl; reply = refl }

pub returns-clause-takes_the_low_bits : goal.returns-clause-takes_the_low_bits
unfolding digits entries entry_of operation_words operation_text named_replies named_reply
    reply_word kind_next
returns-clause-takes_the_low_bits c = record { text = refl; list = refl; reply = refl }

pub returns-clause-takes_none : goal.returns-clause-takes_none
unfolding digits entries entry_of operation_words operation_text named_replies named_reply
    reply_word kind_next
returns-clause-takes_none c = record { text = refl; list = refl; reply = refl }

pub returns-clause-leaves_an_unknown_word : goal.returns-clause-leaves_an_unknown_word
unfolding digits entries entry_of operation_words operation_text named_replies named_reply
    reply_word kind_next
returns-clause-leaves_an_unknown_word c = record { text = refl; list = refl; reply = refl }
