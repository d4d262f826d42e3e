use Rattle.queue_pairs.proofs.Refuting.{finds_leave_nothing}
use Rattle.queue_pairs.proofs.count_laws.finds_leave_nothing.Goals as goal

pub returns : goal.returns
returns c = finds_leave_nothing
