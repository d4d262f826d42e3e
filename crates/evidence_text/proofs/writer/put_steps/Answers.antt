use Rattle.std.proofs.Common.{ℕ, List, sym, subst}
use Rattle.refutation_text.specs.declared.refutation.Step.{Step}
use Rattle.refutation_text.specs.Said.{LineSaid, StepLine, step_said}
use Rattle.evidence_text.specs.Written.{HasCounts, IsWritten}
use Rattle.evidence_text.proofs.WrittenLines.{all_written}
use Rattle.evidence_text.proofs.StoredSaid.{lines_of, said_at}
use Rattle.evidence_text.proofs.writer.put_steps.Goals as goal

pub put_step-requires : goal.put_step-requires
put_step-requires c = subst (λ (step : Step). HasCounts (step_said step)) (sym c.step-item.is)
    (said_at step_said HasCounts c.args.steps.now c.loop-step.step-index c.step-item.result
    c.loop-step-test.true c.requires)

pub returns : goal.returns
returns c =
    let old : List ℕ = c.args.out.now.items in
    let new : List ℕ = c.loop-step.out.items in
    let steps : List Step = c.args.steps.now in
    subst (λ (lines : List LineSaid). IsWritten old lines new) (lines_of step_said StepLine steps)
    (all_written (λ step. StepLine (step_said step)) steps old new c.loop-step.step-index
    c.loop-step-test.false c.loop-step.invariant)
