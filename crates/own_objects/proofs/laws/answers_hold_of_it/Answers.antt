use Rattle.own_objects.proofs.Numbered.{answers_hold_of_it}
use Rattle.own_objects.proofs.laws.answers_hold_of_it.Goals as goal

pub returns : goal.returns
returns g c = answers_hold_of_it
