use Rattle.judging_examples.proofs.ClosedTables.{one_on_one_is_closed}
use Rattle.judging_examples.proofs.piles.two_puts_are_taken_twice.Goals as goal

pub returns : goal.returns
returns c = one_on_one_is_closed
