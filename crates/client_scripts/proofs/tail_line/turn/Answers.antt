use Rattle.std.proofs.Common.{◌∙◌, arith}
use Rattle.text_fields.proofs.NumberTexts.{same_number}
use Rattle.client_scripts.proofs.tail_line.turn.Goals as goal

pub returns-else-caller-from-clause-none : goal.returns-else-caller-from-clause-none
returns-else-caller-from-clause-none c = λ caller inside text.
    let same = same_number c.in_ok-caller.caller caller (omega arith) (omega arith)
    (c.in_ok-caller.ensures.found ∙ text) in
    omega arith
