use Rattle.queue_refutation.proofs.Clashing.{takes_follow_puts}
use Rattle.queue_refutation.proofs.laws.takes_follow_puts.Goals as goal

pub returns : goal.returns
returns c = takes_follow_puts
