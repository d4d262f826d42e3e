use Rattle.queue_refutation.proofs.Refuting.{closed_starts_have_no_order}
use Rattle.queue_refutation.proofs.laws.closed_starts_have_no_order.Goals as goal

pub returns : goal.returns
returns c = closed_starts_have_no_order
