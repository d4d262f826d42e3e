use Rattle.judging_examples.proofs.BagBooks.{left-ahead, left-none}
use Rattle.judging_examples.proofs.bags.what_is_left_is_found.Goals as goal

pub returns-clause-ahead : goal.returns-clause-ahead
returns-clause-ahead c = left-ahead

pub returns-clause-none : goal.returns-clause-none
returns-clause-none c = left-none
