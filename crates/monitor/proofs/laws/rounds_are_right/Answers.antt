use Rattle.monitor.proofs.Judged.{rounds_are_right as right}
use Rattle.monitor.proofs.laws.rounds_are_right.Goals as goal

pub returns : goal.returns
returns c = right
