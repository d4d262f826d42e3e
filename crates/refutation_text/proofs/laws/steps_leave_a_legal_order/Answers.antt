use Rattle.refutation_text.proofs.StepLaws.{steps_leave}
use Rattle.refutation_text.proofs.laws.steps_leave_a_legal_order.Goals as goal

pub returns : goal.returns
returns c = steps_leave
