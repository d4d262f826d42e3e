use Rattle.std.proofs.Common.{map, take}
use Rattle.refutation_text.specs.Said.{StepLine, step_said}
use Rattle.evidence_text.specs.Written.{IsWritten}
use Rattle.evidence_text.proofs.writer.put_steps.Given as goal

abbrev pub invariant-loop-step : goal.invariant-loop-step
invariant-loop-step l = IsWritten l.initial.out.items
    (map (λ step. StepLine (step_said step)) (take l.step-index l.steps)) l.out.items
