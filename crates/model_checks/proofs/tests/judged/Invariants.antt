use Rattle.model_checks.specs.Checks.{IsSoundCheck}
use Rattle.model_checks.proofs.tests.judged.Given as goal

abbrev pub invariant-loop-rounds : goal.invariant-loop-rounds
invariant-loop-rounds l = IsSoundCheck l.check
