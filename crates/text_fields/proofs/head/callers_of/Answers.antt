use Rattle.std.proofs.Common.{sym, ◌∙◌, arith}
use Rattle.text_fields.proofs.NumberTexts.{same_first, same_number}
use Rattle.text_fields.proofs.head.callers_of.Goals as goal

pub returns-then-n-eq0-clause-none : goal.returns-then-n-eq0-clause-none
returns-then-n-eq0-clause-none c = λ n within text.
    let suffix = same_first _ _ _ _ (sym c.in_ok-next.ensures ∙ text) in
    let word = same_first _ _ _ _ (sym c.in_ok-n.ensures.found.1 ∙ suffix.1) in
    let same = same_number c.in_ok-n.n n (omega arith) (omega (arith, within.few)) word.0 in
    omega (arith, within.some)
