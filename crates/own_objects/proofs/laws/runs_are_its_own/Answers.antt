use Rattle.own_objects.proofs.Runs.{runs_are_its_own}
use Rattle.own_objects.proofs.laws.runs_are_its_own.Goals as goal

pub returns : goal.returns
returns g c = runs_are_its_own
