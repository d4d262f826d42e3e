use Rattle.std.proofs.Common.{List, take, sym, subst}
use Rattle.std.specs.List.{AllByRecursion}
use Rattle.refutation_text.specs.declared.refutation.Step.{Step}
use Rattle.refutation_text.specs.Said.{step_said, steps_said}
use Rattle.evidence_text.specs.Written.{HasCounts}
use Rattle.evidence_text.proofs.StoredSaid.{said_take}
use Rattle.evidence_text.proofs.finding.of_parts.Goals as goal

pub of_part-requires-in-loop-k : goal.of_part-requires-in-loop-k
of_part-requires-in-loop-k c =
    subst (λ (steps : List Step). AllByRecursion HasCounts (steps_said (take c.min.result steps)))
    (sym c.deref-in-loop-k.ensures.value)
    (said_take step_said HasCounts c.args.parts.now.steps.items c.min.result c.requires.steps)
