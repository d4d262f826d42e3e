use Rattle.judging_examples.proofs.BagBooks.{unput-ahead, unput-others, unput-refuted}
use Rattle.judging_examples.proofs.bags.what_is_taken_was_put_in.Goals as goal

pub returns-clause-ahead : goal.returns-clause-ahead
returns-clause-ahead c = unput-ahead

pub returns-clause-other : goal.returns-clause-other
returns-clause-other c = unput-others

pub returns-clause-refuted : goal.returns-clause-refuted
returns-clause-refuted c = unput-refuted
