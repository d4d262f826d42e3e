use Rattle.std.proofs.Common.{refl}
use Rattle.std.specs.Fmt.{digits}
use Rattle.seq_objects.specs.Words.{entries, entry_of, operation_words, operation_text}
use Rattle.seq_objects.specs.Replies.{named_replies, named_reply, reply_word}
use Rattle.seq_objects.specs.Objects.{kind_next}
use Rattle.judging_examples.proofs.steps.worked_map_steps.Goals as goal

pub returns-clause-puts_in_order : goal.returns-clause-puts_in_order
unfolding digits entries entry_of operation_words operation_text named_replies named_reply
    reply_word kind_next
returns-clause-puts_in_order c = record { text = refl; list = refl; reply = refl }

pub returns-clause-puts_at_the_first_of_a_key : goal.returns-clause-puts_at_the_first_of_a_key
unfolding digits entries entry_of operation_words operation_text named_replies named_reply
    reply_word kind_next
returns-clause-puts_at_the_first_of_a_key c = record { text = refl; list = refl; reply = refl }

pub returns-clause-gets_the_first_of_a_key : goal.returns-clause-gets_the_first_of_a_key
unfolding digits entries entry_of operation_words operation_text named_replies named_reply
    reply_word kind_next
returns-clause-gets_the_first_of_a_key c = record { text = refl; list = refl; reply = refl }

pub returns-clause-gets_none : goal.returns-clause-gets_none
unfolding digits entries entry_of operation_words operation_text named_replies named_reply
    reply_word kind_next
returns-clause-gets_none c = record { text = refl; list = refl; reply = refl }

pub returns-clause-takes_out_the_first_of_a_key : goal.returns-clause-takes_out_the_first_of_a_key
unfolding digits entries entry_of operation_words operation_text named_replies named_reply
    reply_word kind_next
returns-clause-takes_out_the_first_of_a_key c = record { text = refl; list = refl; reply = refl }

pub returns-clause-takes_out_none : goal.returns-clause-takes_out_none
unfolding digits entries entry_of operation_words operation_text named_replies named_reply
    reply_word kind_next
returns-clause-takes_out_none c = record { text = refl; list = refl; reply = refl }

pub returns-clause-leaves_an_unknown_word : goal.returns-clause-leaves_an_unknown_word
unfolding digits entries entry_of operation_words operation_text named_replies named_reply
    reply_word kind_next
returns-clause-leaves_an_unknown_word c = record { text = refl; list = refl; reply = refl }

pub returns-clause-leaves_an_unknown_low_word : goal.returns-clause-leaves_an_unknown_low_word
unfolding digits entries entry_of operation_words operation_text named_replies named_reply
    reply_word kind_next
returns-clause-leaves_an_unknown_low_word c = record { text = refl; list = refl; reply = refl }
