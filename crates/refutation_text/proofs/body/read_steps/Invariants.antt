use Rattle.std.proofs.Common.{[], length}
use Rattle.text_fields.specs.Faults.{GoesTo}
use Rattle.refutation_text.specs.Said.{steps_said}
use Rattle.refutation_text.specs.RefutationRules.{InSteps, body_rules}
use Rattle.refutation_text.proofs.body.read_steps.Given as goal

abbrev pub invariant-loop-steps : goal.invariant-loop-steps
invariant-loop-steps l =
    GoesTo body_rules (InSteps []) l.fn.lines (InSteps (steps_said l.steps.items)) l.lines

abbrev pub decreases-loop-steps : goal.decreases-loop-steps
decreases-loop-steps l = length l.lines.bytes
