use Rattle.refutations.proofs.Refuting.{impossible_replies_have_no_order}
use Rattle.refutations.proofs.laws.impossible_replies_have_no_order.Goals as goal

pub returns : goal.returns
returns c = impossible_replies_have_no_order
