use Rattle.std.proofs.Common.{refl}
use Rattle.seq_objects.specs.Replies.{named_replies, named_reply, reply_word}
use Rattle.pinned_numbers.proofs.laws.the_reply_bad.Goals as goal

pub returns-clause-text : goal.returns-clause-text
unfolding named_replies named_reply reply_word
returns-clause-text c = refl
