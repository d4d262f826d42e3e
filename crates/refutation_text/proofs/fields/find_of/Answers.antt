use Rattle.std.proofs.Common.{◌≡◌, sym, subst, ◌∙◌}
use Rattle.text_fields.proofs.HeadTexts.{same_numbers}
use Rattle.refutation_text.specs.Grammar.{AreValues}
use Rattle.refutation_text.proofs.Lines.{are_numbers, find_rest}
use Rattle.refutation_text.proofs.fields.find_of.Goals as goal

pub returns-in-None-clause-none : goal.returns-in-None-clause-none
returns-in-None-clause-none c = λ call values may are text.
    let none = rw c.in-None.is at c.in_ok-values.ensures.none in
    none values (are_numbers values (λ n less. (are.each n less).0))
    (find_rest (record { caller = c.in-Some.caller; number = c.in-Some.number }) call values
    c.args.words.now c.find_call_of.new.words c.in-Some.ensures.found.1 text)

pub returns-then-not-are_values-clause-none : goal.returns-then-not-are_values-clause-none
returns-then-not-are_values-clause-none c = λ call values may are text.
    let read = rw c.in-Some-2.is at c.in_ok-values.ensures.found in
    let rest = find_rest (record { caller = c.in-Some.caller; number = c.in-Some.number }) call
    values c.args.words.now c.find_call_of.new.words c.in-Some.ensures.found.1 text in
    let same : c.in-Some-2.values.items ≡ values = same_numbers c.in-Some-2.values.items values
    read.0 (are_numbers values (λ n less. (are.each n less).0)) (sym read.1 ∙ rest) in
    let here : c.deref.result.now ≡ values = cc (c.deref.ensures.value, same) in
    cc (c.are_values.ensures.1 (subst AreValues (sym here) are), c.if-not-are_values.true)
