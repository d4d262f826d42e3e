use Rattle.std.proofs.Common.{◌≡◌, true, sym, ap, ◌∙◌}
use Rattle.std.specs.Prelude.{not, is_some}
use Rattle.text_fields.proofs.NumberTexts.{some_next}
use Rattle.refutation_text.proofs.NumberLists.{not_all_numbers}
use Rattle.refutation_text.proofs.fields.numbers_of.Goals as goal

pub returns-in-None-clause-none : goal.returns-in-None-clause-none
returns-in-None-clause-none c = λ keys numbers text.
    let some : is_some c.next.result ≡ true = c.is_none.ensures ∙ ap not c.if-is_none.false in
    let more = some_next c.next.result _ _ some c.next.ensures in
    not_all_numbers c.loop-keys.keys.items keys c.loop-keys.words c.next.new.self more.0.now
    (sym c.loop-keys.invariant.text ∙ text) numbers (sym c.copy.ensures ∙ more.1)
    c.in-None.ensures.none
