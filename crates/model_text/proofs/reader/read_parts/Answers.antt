use Rattle.std.proofs.Common.{[], subst}
use Rattle.std.proofs.lemmas.Result.{err_from_is_err_and}
use Rattle.text_fields.specs.Lines.{Unread}
use Rattle.text_fields.proofs.Sharp.{goes_then, stops_later}
use Rattle.book_text.specs.BookRules.{whole_text}
use Rattle.book_text.proofs.CallTexts.{stops_then}
use Rattle.model_text.specs.ModelRules.{StepsDue, InSteps, AllRead, nothing_read, model_rules}
use Rattle.model_text.specs.Reading.{Goes}
use Rattle.model_text.proofs.reader.read_parts.Goals as goal

pub returns-in_err-read_title-clause-refused : goal.returns-in_err-read_title-clause-refused
returns-in_err-read_title-clause-refused c =
    let p = err_from_is_err_and c.from_residual-in_err-read_title.result
    c.from_residual-in_err-read_title.ensures.1 in
    let book = c.in_ok-book.book in
    let text : Unread = whole_text c.args.bytes.now in
    let prefix =
    subst (λ (t : Unread). Goes nothing_read t (StepsDue book) c.read_book_lines.new.lines)
    c.new-lines.ensures c.in_ok-book.ensures.found in
    rw (p.1, p.2) (stops_later model_rules nothing_read
    (StepsDue book) text c.read_book_lines.new.lines c.in_err-read_title.field-0.0 prefix
    (c.in_err-read_title.ensures.refused book))

pub returns-in_err-told-clause-refused : goal.returns-in_err-told-clause-refused
returns-in_err-told-clause-refused c =
    let p = err_from_is_err_and c.from_residual-in_err-told.result
    c.from_residual-in_err-told.ensures.1 in
    let book = c.in_ok-book.book in
    let text : Unread = whole_text c.args.bytes.now in
    let prefix =
    subst (λ (t : Unread). Goes nothing_read t (StepsDue book) c.read_book_lines.new.lines)
    c.new-lines.ensures c.in_ok-book.ensures.found in
    let titled = goes_then model_rules nothing_read (StepsDue book)
    (InSteps book []) text c.read_book_lines.new.lines c.read_title.new.lines prefix
    (c.in_ok-read_title.ensures.found book) in
    rw (p.1, p.2)
    (stops_then model_rules nothing_read (InSteps book []) text c.read_title.new.lines
    c.in_err-told.field-0.0 titled (c.in_err-told.ensures.refused book))

pub returns-in_err-no_more-clause-refused : goal.returns-in_err-no_more-clause-refused
returns-in_err-no_more-clause-refused c =
    let p = err_from_is_err_and c.from_residual-in_err-no_more.result
    c.from_residual-in_err-no_more.ensures.1 in
    let book = c.in_ok-book.book in
    let told = c.in_ok-told.told.items in
    let text : Unread = whole_text c.args.bytes.now in
    let prefix =
    subst (λ (t : Unread). Goes nothing_read t (StepsDue book) c.read_book_lines.new.lines)
    c.new-lines.ensures c.in_ok-book.ensures.found in
    let titled = goes_then model_rules nothing_read (StepsDue book)
    (InSteps book []) text c.read_book_lines.new.lines c.read_title.new.lines prefix
    (c.in_ok-read_title.ensures.found book) in
    let all =
    goes_then model_rules nothing_read (InSteps book []) (AllRead book told) text
    c.read_title.new.lines c.read_told.new.lines titled (c.in_ok-told.ensures.found book) in
    rw (p.1, p.2) (stops_later model_rules nothing_read
    (AllRead book told) text c.read_told.new.lines c.in_err-no_more.field-0.0 all
    (c.in_err-no_more.ensures.refused book told))

pub returns-clause-found : goal.returns-clause-found
returns-clause-found c =
    let book = c.in_ok-book.book in
    let told = c.in_ok-told.told.items in
    let text : Unread = whole_text c.args.bytes.now in
    let prefix =
    subst (λ (t : Unread). Goes nothing_read t (StepsDue book) c.read_book_lines.new.lines)
    c.new-lines.ensures c.in_ok-book.ensures.found in
    let titled = goes_then model_rules nothing_read (StepsDue book)
    (InSteps book []) text c.read_book_lines.new.lines c.read_title.new.lines prefix
    (c.in_ok-read_title.ensures.found book) in
    let all =
    goes_then model_rules nothing_read (InSteps book []) (AllRead book told) text
    c.read_title.new.lines c.read_told.new.lines titled (c.in_ok-told.ensures.found book) in
    (c.read_told.new.lines, record { goes = all; through = c.in_ok-no_more.ensures.whole })
