use Rattle.std.proofs.Common.{sym, ◌∙◌, arith}
use Rattle.text_fields.proofs.NumberTexts.{same_first, same_number}
use Rattle.text_fields.proofs.counts.next_number.Goals as goal

pub returns-else-n-most-clause-none : goal.returns-else-n-most-clause-none
returns-else-n-most-clause-none c = λ n suffix few text.
    let word = same_first _ _ _ _ (sym c.in_ok-next.ensures ∙ text) in
    let same =
    same_number c.in_ok-n.n n (omega arith) (omega arith) (c.in_ok-n.ensures.found ∙ word.0) in
    omega arith
