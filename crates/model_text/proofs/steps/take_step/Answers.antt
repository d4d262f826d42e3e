use Rattle.std.proofs.Common.{arith}
use Rattle.model_text.proofs.Subjects.{step_ends}
use Rattle.model_text.proofs.steps.take_step.Goals as goal

pub returns-in_err-next-clause-none : goal.returns-in_err-next-clause-none
returns-in_err-next-clause-none c = rw c.from_residual-in_err-next.ensures
    (λ state op next suffix may text. c.in_err-next.ensures.none next suffix (omega (arith, may.2))
    (step_ends c.in_ok-state.state c.in_ok-op.op state op next c.args.words.now
    c.next_number.new.words c.take_operation.new.words suffix c.in_ok-state.ensures.found.1
    c.in_ok-op.ensures.found.0 c.in_ok-op.ensures.found.1 may text))
