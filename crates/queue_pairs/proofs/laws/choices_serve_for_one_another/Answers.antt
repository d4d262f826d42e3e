use Rattle.queue_pairs.proofs.Swapping.{earlier_put_serves, earlier_take_serves}
use Rattle.queue_pairs.proofs.laws.choices_serve_for_one_another.Goals as goal

pub returns-clause-puts : goal.returns-clause-puts
returns-clause-puts c = earlier_put_serves

pub returns-clause-takes : goal.returns-clause-takes
returns-clause-takes c = earlier_take_serves
