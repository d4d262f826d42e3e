use Rattle.std.specs.List.{AllByRecursion}
use Rattle.refutation_text.specs.Said.{steps_said}
use Rattle.evidence_text.specs.Written.{HasCounts}
use Rattle.evidence_text.proofs.steps.push_leaves.Given as goal

abbrev pub invariant-loop-caller : goal.invariant-loop-caller
invariant-loop-caller l = AllByRecursion HasCounts (steps_said l.steps.items)
