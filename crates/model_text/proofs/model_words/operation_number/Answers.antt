use Rattle.std.proofs.Common.{◌≡◌, ◌∙◌, Some, decimal, sym, ap, arith}
use Rattle.std.specs.Prelude.{option_copied}
use Rattle.std.proofs.lemmas.Option.{same_Some}
use Rattle.text_fields.proofs.NumberTexts.{same_number}
use Rattle.model_text.proofs.model_words.operation_number.Goals as goal

pub returns-else-number-lt-NUMBERS-clause-none : goal.returns-else-number-lt-NUMBERS-clause-none
returns-else-number-lt-NUMBERS-clause-none c = λ n small e.
    let there : Some c.in_ok-word.field-0.now ≡ Some (decimal n) =
    sym (ap option_copied c.in_ok-word.was) ∙ e in
    let word : c.in_ok-word.field-0.now ≡ decimal n =
    same_Some c.in_ok-word.field-0.now (decimal n) there in
    let same : c.in_ok-number.number ≡ n = same_number c.in_ok-number.number n (omega arith)
    (omega arith) (c.in_ok-number.ensures.found ∙ word) in
    absurd (omega (arith, c.if-number-lt-NUMBERS.false))
