use Rattle.refutations.proofs.Matching.{missed_puts_have_no_order}
use Rattle.refutations.proofs.laws.missed_puts_have_no_order.Goals as goal

pub returns : goal.returns
returns c = missed_puts_have_no_order
