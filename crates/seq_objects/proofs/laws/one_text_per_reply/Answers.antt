use Rattle.seq_objects.proofs.ReplyTexts.{reply_word-once}
use Rattle.seq_objects.proofs.Texts.{reply_word-IsWord}
use Rattle.seq_objects.proofs.laws.one_text_per_reply.Goals as goal

pub returns-clause-text : goal.returns-clause-text
returns-clause-text c = reply_word-once

pub returns-clause-word : goal.returns-clause-word
returns-clause-word c = reply_word-IsWord
