use Rattle.std.proofs.lemmas.Result.{err_from_is_err_and}
use Rattle.text_fields.specs.Lines.{words_of}
use Rattle.report_text.proofs.FirstTests.{prefix_refused, answer_refused}
use Rattle.report_text.proofs.fields.read_fields.Goals as goal

pub returns-in_err-end-in-Some-clause-refused : goal.returns-in_err-end-in-Some-clause-refused
returns-in_err-end-in-Some-clause-refused c =
    let p = err_from_is_err_and c.from_residual.result c.from_residual.ensures.1 in
    let prefix =
    rw (c.callers-n.ensures.count, c.new-words.ensures, c.in-Some.is) at c.in-Ok.ensures.found in
    rw (p.1, p.2)
    (answer_refused c.args.kind c.args.book.now c.args.call (words_of c.args.line.now) c.args.number
    c.in-Ok.field-0.op c.in-Some.answer c.read_prefix.new.words c.in_err-end-in-Some.field-0.0
    c.callers-n.ensures.small.callers prefix c.in_err-end-in-Some.ensures.refused)

pub returns-in-Err-clause-refused : goal.returns-in-Err-clause-refused
returns-in-Err-clause-refused c =
    prefix_refused c.args.kind c.args.book.now c.args.call (words_of c.args.line.now) c.args.number
    c.in-Err.what (rw (c.callers-n.ensures.count, c.new-words.ensures) at c.in-Err.ensures.refused)
