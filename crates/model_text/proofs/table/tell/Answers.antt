use Rattle.model_text.proofs.Tables.{alike-promise, alike-step, no_broken_promise, no_contradiction, no_leaving}
use Rattle.model_text.proofs.table.tell.Goals as goal

pub unreachable-requires : goal.unreachable-requires
unreachable-requires c =
    let fault = rw c.in-Err-LeavesNot.field-0-is at c.in-Err-LeavesNot.ensures.refusal in
    no_broken_promise c.requires.0 c.args.line c.args.table.now c.requires.1 c.requires.2
    c.in-Leaves.op c.in-Err-LeavesNot.field-0-0 fault.0 c.in-Leaves.is fault.1

pub unreachable-requires-in-Err-Contradicts : goal.unreachable-requires-in-Err-Contradicts
unreachable-requires-in-Err-Contradicts c =
    let fault = rw c.in-Err-Contradicts.field-0-is at c.in-Err-Contradicts.ensures.refusal in
    no_contradiction c.requires.0 c.args.line c.args.table.now c.requires.1 c.requires.2
    c.in-Step.state c.in-Step.op c.in-Step.next c.in-Err-Contradicts.field-0-0 c.in-Step.is fault.0

pub returns-in-Ok : goal.returns-in-Ok
returns-in-Ok c = λ told follow alike.
    alike-promise told c.args.line c.in-Leaves.op c.args.table.now c.promise.new.self c.in-Leaves.is
    alike c.in-Ok.ensures.promised

pub returns-in-Ok-tell : goal.returns-in-Ok-tell
returns-in-Ok-tell c = λ told follow alike.
    alike-step told c.args.line c.in-Step.state c.in-Step.op c.in-Step.next c.args.table.now
    c.tell.new.self c.in-Step.is alike c.in-Ok-tell.ensures.told c.in-Ok-tell.ensures.kept

pub unreachable-requires-in-Err-LeavesNot-tell : goal.unreachable-requires-in-Err-LeavesNot-tell
unreachable-requires-in-Err-LeavesNot-tell c =
    let fault =
    rw c.in-Err-LeavesNot-tell.field-0-is at c.in-Err-LeavesNot-tell.ensures.refusal in
    no_leaving c.requires.0 c.args.line c.args.table.now c.requires.1 c.requires.2
    c.in-Step.state c.in-Step.op c.in-Step.next c.in-Step.is fault.0 fault.1
