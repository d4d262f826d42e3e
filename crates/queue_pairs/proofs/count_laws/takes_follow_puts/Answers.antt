use Rattle.queue_pairs.proofs.Refuting.{takes_follow_puts}
use Rattle.queue_pairs.proofs.count_laws.takes_follow_puts.Goals as goal

pub returns : goal.returns
returns c = takes_follow_puts
