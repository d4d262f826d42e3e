use Rattle.std.proofs.Common.{[], ◌∷◌, refl}
use Rattle.std.specs.Fmt.{digits}
use Rattle.seq_objects.specs.Words.{entries, entry_of, operation_words, operation_text}
use Rattle.seq_objects.specs.Replies.{named_replies, named_reply, reply_word}
use Rattle.seq_objects.specs.Objects.{kind_next}
use Rattle.judging_examples.proofs.steps.worked_cas_register_steps.Goals as goal

pub returns-clause-sets : goal.returns-clause-sets
unfolding digits entries entry_of operation_words operation_text named_replies named_reply
    reply_word kind_next
returns-clause-sets c = record { text = refl; list = refl; reply = refl }

pub returns-clause-sets_an_empty_list : goal.returns-clause-sets_an_empty_list
unfolding digits entries entry_of operation_words operation_text named_replies named_reply
    reply_word kind_next
returns-clause-sets_an_empty_list c = record { text = refl; list = refl; reply = refl }

pub returns-clause-keeps_another_value : goal.returns-clause-keeps_another_value
unfolding digits entries entry_of operation_words operation_text named_replies named_reply
    reply_word kind_next
returns-clause-keeps_another_value c = record { text = refl; list = refl; reply = refl }

pub returns-clause-takes_the_low_bits : goal.returns-clause-takes_the_low_bits
unfolding digits entries entry_of operation_words operation_text named_replies named_reply
    reply_word kind_next
returns-clause-takes_the_low_bits c = record { text = refl; list = refl; reply = refl }

pub returns-clause-writes : goal.returns-clause-writes
unfolding digits entries entry_of operation_words operation_text named_replies named_reply
    reply_word kind_next
returns-clause-writes c = record { text = refl; list = refl; reply = refl }

pub returns-clause-reads : goal.returns-clause-reads
unfolding digits entries entry_of operation_words operation_text named_replies named_reply
    reply_word kind_next
returns-clause-reads c = record { text = refl; list = refl; reply = refl }

pub returns-clause-leaves_an_unknown_word : goal.returns-clause-leaves_an_unknown_word
unfolding digits entries entry_of operation_words operation_text named_replies named_reply
    reply_word kind_next
returns-clause-leaves_an_unknown_word c = record { text = refl; list = refl; reply = refl }

pub returns-clause-is_read : goal.returns-clause-is_read
unfolding digits entries entry_of operation_words
returns-clause-is_read c = record { suffix = (54 ∷ []) ∷ []; whole = refl; count = refl }
