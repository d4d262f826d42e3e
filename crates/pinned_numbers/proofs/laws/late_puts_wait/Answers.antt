use Rattle.std.proofs.Common.{refl}
use Rattle.std.specs.Fmt.{digits}
use Rattle.seq_objects.specs.Replies.{named_replies, named_reply, reply_word}
use Rattle.seq_objects.specs.Objects.{kind_next}
use Rattle.pinned_numbers.proofs.laws.late_puts_wait.Goals as goal

pub returns-clause-own : goal.returns-clause-own
unfolding digits named_replies named_reply reply_word kind_next
returns-clause-own c = refl

pub returns-clause-other : goal.returns-clause-other
unfolding digits named_replies named_reply reply_word kind_next
returns-clause-other c = refl

pub returns-clause-woken : goal.returns-clause-woken
unfolding digits named_replies named_reply reply_word kind_next
returns-clause-woken c = refl

pub returns-clause-in_order : goal.returns-clause-in_order
unfolding digits named_replies named_reply reply_word kind_next
returns-clause-in_order c = refl
