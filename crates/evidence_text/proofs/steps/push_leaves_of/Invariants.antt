use Rattle.std.specs.List.{AllByRecursion}
use Rattle.refutation_text.specs.Said.{steps_said}
use Rattle.evidence_text.specs.Written.{HasCounts}
use Rattle.evidence_text.proofs.steps.push_leaves_of.Given as goal

abbrev pub invariant-loop-number : goal.invariant-loop-number
invariant-loop-number l = AllByRecursion HasCounts (steps_said l.steps.items)
