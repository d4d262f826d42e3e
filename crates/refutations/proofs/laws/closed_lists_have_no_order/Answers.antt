use Rattle.refutations.proofs.Refuting.{closed_lists_have_no_order}
use Rattle.refutations.proofs.laws.closed_lists_have_no_order.Goals as goal

pub returns : goal.returns
returns c = closed_lists_have_no_order
