use Rattle.std.proofs.Common.{ℕ, List, ◌++◌, sym, ap, subst, ◌∙◌}
use Rattle.text_fields.specs.declared.version.Version.TheVariants.{Second}
use Rattle.text_fields.specs.OperationLaws.{small_word}
use Rattle.book_text.specs.CallLines.{place_words}
use Rattle.report_text.specs.Parts.{IsNoAnswer}
use Rattle.report_text.proofs.FirstTests.{first_answer}
use Rattle.report_text.proofs.fields.read_prefix.Goals as goal

pub returns-in-Err-clause-refused : goal.returns-in-Err-clause-refused
returns-in-Err-clause-refused c = λ counts told size.
    let op = c.in-Some-take_operation.op in
    let text = c.in-Some.ensures.found ∙ ap (λ (ws : List (List ℕ)). place_words c.args.call ++ ws)
    c.in-Some-take_operation.ensures.found.1 in
    first_answer c.args.kind counts told c.args.call c.args.words.now op c.take_operation.new.words
    c.in-Err.what (small_word Second op c.in-Some-take_operation.ensures.found.0) text
    (subst (λ (m : ℕ). IsNoAnswer m c.take_operation.new.words c.in-Err.what)
    (sym size) c.in-Err.ensures.refused)
