use Rattle.refutation_text.specs.Grammar.{AreCounts}
use Rattle.evidence_text.proofs.steps.cut_step.Given as goal

abbrev pub invariant-loop-caller : goal.invariant-loop-caller
invariant-loop-caller l = AreCounts l.counts
