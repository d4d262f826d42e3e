use Rattle.model_checks.specs.Checks.{IsSoundCheck}
use Rattle.model_checks.proofs.tests.check_of.Given as goal

abbrev pub invariant-loop-event : goal.invariant-loop-event
invariant-loop-event l = IsSoundCheck l.check
