use Rattle.std.proofs.Common.{◌≡◌, true, sym, ap, ◌∙◌}
use Rattle.std.specs.Prelude.{not, is_some}
use Rattle.text_fields.proofs.NumberTexts.{some_next}
use Rattle.refutation_text.proofs.CallLists.{not_all_calls}
use Rattle.refutation_text.proofs.fields.all_calls_of.Goals as goal

pub returns-in-None-clause-none : goal.returns-in-None-clause-none
returns-in-None-clause-none c = λ calls named text.
    let some : is_some c.next.result ≡ true = c.is_none.ensures ∙ ap not c.if-is_none.false in
    let more = some_next c.next.result _ _ some c.next.ensures in
    not_all_calls c.loop-calls.calls.items calls c.loop-calls.words c.next.new.self more.0.now
    (sym c.loop-calls.invariant.text ∙ text) named (sym c.copy.ensures ∙ more.1)
    c.in-None.ensures.none
