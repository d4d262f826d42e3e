use Rattle.std.proofs.lemmas.Result.{err_from_is_err_and}
use Rattle.set_order.proofs.SetHeads.{one_head, no_head_fault, one_head_fault}
use Rattle.set_order.proofs.reader.read_head.Goals as goal

pub returns-in_err-head-clause-only : goal.returns-in_err-head-clause-only
returns-in_err-head-clause-only c = λ calls left read.
    let refused = rw c.copy-ahead.ensures at c.in_err-head.ensures.refused in
    absurd (no_head_fault calls c.args.lines.now left c.in_err-head.field-0.0 read refused)

pub returns-in_err-head-clause-first : goal.returns-in_err-head-clause-first
returns-in_err-head-clause-first c = λ fault first.
    let p = err_from_is_err_and c.from_residual.result c.from_residual.ensures.1 in
    let refused = rw c.copy-ahead.ensures at c.in_err-head.ensures.refused in
    rw (p.1, p.2) (one_head_fault c.args.lines.now c.in_err-head.field-0.0 fault refused first)

pub returns-clause-only : goal.returns-clause-only
returns-clause-only c = λ calls left read.
    let found = rw c.copy-ahead.ensures at c.in_ok-head.ensures.found in
    one_head c.in_ok-head.head.1 calls c.args.lines.now c.read_lines.new.lines left found read

pub returns-clause-first : goal.returns-clause-first
returns-clause-first c = λ fault first.
    let found = rw c.copy-ahead.ensures at c.in_ok-head.ensures.found in
    no_head_fault c.in_ok-head.head.1 c.args.lines.now c.read_lines.new.lines fault found first
