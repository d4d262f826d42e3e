use Rattle.smaller_book.proofs.Unseen.{has_one_without_unseen}
use Rattle.smaller_book.proofs.OneKey.{has_one_of_kind}
use Rattle.smaller_book.proofs.Settings.{words_tell}
use Rattle.smaller_book.proofs.laws.unseen_calls_may_be_left_out.Goals as goal

pub returns-clause-carries_over : goal.returns-clause-carries_over
returns-clause-carries_over c = has_one_without_unseen

pub returns-clause-one_key : goal.returns-clause-one_key
returns-clause-one_key c = has_one_of_kind

pub returns-clause-words : goal.returns-clause-words
returns-clause-words c = words_tell
