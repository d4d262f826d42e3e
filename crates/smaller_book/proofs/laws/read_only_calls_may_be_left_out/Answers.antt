use Rattle.smaller_book.proofs.ReadOnly.{has_one_without_read_only}
use Rattle.smaller_book.proofs.Restoring.{has_one_exactly}
use Rattle.smaller_book.proofs.laws.read_only_calls_may_be_left_out.Goals as goal

pub returns-clause-all : goal.returns-clause-all
returns-clause-all c = has_one_without_read_only

pub returns-clause-unanswered : goal.returns-clause-unanswered
returns-clause-unanswered c = has_one_exactly
