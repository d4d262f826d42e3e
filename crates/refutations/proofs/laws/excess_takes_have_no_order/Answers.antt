use Rattle.refutations.proofs.Matching.{excess_takes_have_no_order}
use Rattle.refutations.proofs.laws.excess_takes_have_no_order.Goals as goal

pub returns : goal.returns
returns c = excess_takes_have_no_order
