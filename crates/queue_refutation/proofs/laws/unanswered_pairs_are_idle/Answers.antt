use Rattle.queue_refutation.proofs.Dropping.{unanswered_pairs_are_idle}
use Rattle.queue_refutation.proofs.laws.unanswered_pairs_are_idle.Goals as goal

pub returns : goal.returns
returns c = unanswered_pairs_are_idle
