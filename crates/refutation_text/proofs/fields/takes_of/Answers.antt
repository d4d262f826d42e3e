use Rattle.std.proofs.Common.{[], sym, ◌∙◌, arith}
use Rattle.text_fields.proofs.NumberTexts.{same_first}
use Rattle.refutation_text.proofs.fields.takes_of.Goals as goal

pub returns-in_err-moment-clause-none : goal.returns-in_err-moment-clause-none
returns-in_err-moment-clause-none c =
    rw c.from_residual-in_err-moment.ensures (λ value moment low few text.
    let first = same_first _ _ _ _ (sym c.in_ok-take_word.ensures.found ∙ text) in
    let second = same_first _ _ _ _ (sym c.in_ok-take_word-2.ensures.found ∙ first.1) in
    let third = same_first _ _ _ _ (sym c.in_ok-value.ensures.found.1 ∙ second.1) in
    c.in_err-moment.ensures.none moment [] (omega (arith, few)) third.1)
