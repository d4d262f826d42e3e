use Rattle.own_objects.proofs.Runs.{lists_make_no_difference}
use Rattle.own_objects.proofs.laws.lists_make_no_difference.Goals as goal

pub returns : goal.returns
returns c = lists_make_no_difference
