use Rattle.std.proofs.Common.{Ok, Err}
use Rattle.std.proofs.lemmas.Result.{err_from_is_err_and}
use Rattle.text_fields.specs.declared.version.Version.TheVariants.{Second}
use Rattle.book_text.proofs.CallReadings.{only_calls, first_calls}
use Rattle.book_text.proofs.calls.read_calls.Goals as goal

pub returns-in_err-book-clause-only : goal.returns-in_err-book-clause-only
returns-in_err-book-clause-only g c = λ book left read.
    let p = err_from_is_err_and c.from_residual.result c.from_residual.ensures.1 in
    let refused = rw c.copy-ahead.ensures at c.in_err-book.ensures.refused in
    let text = c.args.operations.now in
    rw (p.1, p.2)
    (only_calls Second (g.T.OpText.operations text) (g.met.T.OpText.one_operation text)
    (g.met.T.OpText.solid_words text) c.args.calls.now c.args.lines.now
    (Err c.in_err-book.field-0.0) c.args.lines.now left tt refused book read)

pub returns-in_err-book-clause-first : goal.returns-in_err-book-clause-first
returns-in_err-book-clause-first g c = λ fault first.
    let p = err_from_is_err_and c.from_residual.result c.from_residual.ensures.1 in
    let refused = rw c.copy-ahead.ensures at c.in_err-book.ensures.refused in
    let text = c.args.operations.now in
    rw (p.1, p.2)
    (first_calls Second (g.T.OpText.operations text) (g.met.T.OpText.one_operation text)
    (g.met.T.OpText.solid_words text) c.args.calls.now c.args.lines.now
    (Err c.in_err-book.field-0.0) c.args.lines.now tt refused fault first)

pub returns-clause-only : goal.returns-clause-only
returns-clause-only g c = λ book left read.
    let found = rw c.copy-ahead.ensures at c.in_ok-book.ensures.found in
    let text = c.args.operations.now in
    only_calls Second (g.T.OpText.operations text) (g.met.T.OpText.one_operation text)
    (g.met.T.OpText.solid_words text) c.args.calls.now c.args.lines.now
    (Ok c.in_ok-book.book) c.read_calls_of.new.lines left found tt book read

pub returns-clause-first : goal.returns-clause-first
returns-clause-first g c = λ fault first.
    let found = rw c.copy-ahead.ensures at c.in_ok-book.ensures.found in
    let text = c.args.operations.now in
    first_calls Second (g.T.OpText.operations text) (g.met.T.OpText.one_operation text)
    (g.met.T.OpText.solid_words text) c.args.calls.now c.args.lines.now
    (Ok c.in_ok-book.book) c.read_calls_of.new.lines found tt fault first
