use Rattle.queue_refutation.proofs.Refuting.{closed_standings_are_dead}
use Rattle.queue_refutation.proofs.laws.closed_standings_are_dead.Goals as goal

pub returns : goal.returns
returns c = closed_standings_are_dead
