use Rattle.std.proofs.Common.{◌∙◌, sym, arith}
use Rattle.text_fields.proofs.NumberTexts.{same_first, same_number}
use Rattle.book_text.proofs.entry.take_due.Goals as goal

pub returns-else-n-due-clause-none : goal.returns-else-n-due-clause-none
returns-else-n-due-clause-none c = λ suffix text.
    let word = same_first _ _ _ _ (sym c.in_ok-n.ensures.found.1 ∙ text) in
    let same = same_number c.in_ok-n.n c.args.due (omega arith) (omega arith) word.0 in
    c.if-n-due.false same
