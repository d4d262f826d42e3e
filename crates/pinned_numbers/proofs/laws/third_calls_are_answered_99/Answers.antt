use Rattle.std.proofs.Common.{refl}
use Rattle.std.specs.Fmt.{digits}
use Rattle.seq_objects.specs.Replies.{named_replies, named_reply, reply_word}
use Rattle.seq_objects.specs.Objects.{kind_next}
use Rattle.pinned_numbers.proofs.laws.third_calls_are_answered_99.Goals as goal

pub returns-clause-second : goal.returns-clause-second
unfolding digits named_replies named_reply reply_word kind_next
returns-clause-second c = refl

pub returns-clause-third : goal.returns-clause-third
unfolding digits named_replies named_reply reply_word kind_next
returns-clause-third c = refl

pub returns-clause-fourth : goal.returns-clause-fourth
unfolding digits named_replies named_reply reply_word kind_next
returns-clause-fourth c = refl

pub returns-clause-of_another : goal.returns-clause-of_another
unfolding digits named_replies named_reply reply_word kind_next
returns-clause-of_another c = refl

pub returns-clause-third_of_another : goal.returns-clause-third_of_another
unfolding digits named_replies named_reply reply_word kind_next
returns-clause-third_of_another c = refl
