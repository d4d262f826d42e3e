use Rattle.std.proofs.Common.{map, decimal, sym, ◌∙◌, arith}
use Rattle.text_fields.proofs.NumberTexts.{same_first}
use Rattle.refutation_text.proofs.fields.find_call_of.Goals as goal

pub returns-in_err-number-clause-none : goal.returns-in_err-number-clause-none
returns-in_err-number-clause-none c =
    rw c.from_residual-in_err-number.ensures (λ call values may text.
    let first = same_first _ _ _ _ (sym c.in_ok-take_word.ensures.found ∙ text) in
    let second = same_first _ _ _ _ (sym c.in_ok-take_word-2.ensures.found ∙ first.1) in
    let third = same_first _ _ _ _ (sym c.in_ok-caller.ensures.found.1 ∙ second.1) in
    c.in_err-number.ensures.none call.number (map decimal values) (omega (arith, may.1)) third.1)
