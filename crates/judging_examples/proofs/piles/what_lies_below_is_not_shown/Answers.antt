use Rattle.judging_examples.proofs.ClosedTables.{one_below_two_is_closed}
use Rattle.judging_examples.proofs.piles.what_lies_below_is_not_shown.Goals as goal

pub returns : goal.returns
returns c = one_below_two_is_closed
