use Rattle.std.proofs.Common.{[], subst}
use Rattle.std.proofs.lemmas.Result.{err_from_is_err_and}
use Rattle.text_fields.specs.Lines.{Unread}
use Rattle.text_fields.specs.Faults.{GoesTo}
use Rattle.text_fields.proofs.Sharp.{goes_then, stops_later}
use Rattle.text_fields.proofs.Within.{goes_within, stops_within}
use Rattle.book_text.specs.CallLines.{no_call_read}
use Rattle.book_text.specs.BookRules.{whole_text}
use Rattle.book_text.proofs.CallTexts.{stops_then}
use Rattle.set_order.specs.SetBookRules.{TitleDue, InCalls, AtEnd, in_calls, setbook_rules}
use Rattle.set_order.proofs.SharpSetBooks.{calls_within, set_book_ends, set_book_no_end}
use Rattle.set_order.proofs.SetHeads.{head_goes, head_stops}
use Rattle.set_order.proofs.reader.read_text.Goals as goal

pub returns-in_err-n-clause-refused : goal.returns-in_err-n-clause-refused
returns-in_err-n-clause-refused c =
    let p = err_from_is_err_and c.from_residual.result c.from_residual.ensures.1 in
    rw (p.1, p.2) (head_stops c.args.bytes.now c.new-lines.result c.in_err-n.field-0.0
    c.new-lines.ensures c.in_err-n.ensures.refused)

pub returns-in_err-book-clause-refused : goal.returns-in_err-book-clause-refused
returns-in_err-book-clause-refused c =
    let p =
    err_from_is_err_and c.from_residual-in_err-book.result c.from_residual-in_err-book.ensures.1 in
    let calls = c.in_ok-n.calls in
    let start = subst (λ (t : Unread). GoesTo setbook_rules TitleDue t
    (in_calls (no_call_read calls)) c.read_head.new.lines) c.new-lines.ensures
    (head_goes calls c.new-lines.result c.read_head.new.lines c.in_ok-n.ensures.found) in
    rw (p.1, p.2) (stops_then setbook_rules TitleDue (in_calls (no_call_read calls))
    (whole_text c.args.bytes.now) c.read_head.new.lines c.in_err-book.field-0.0 start
    (stops_within calls_within (no_call_read calls) c.read_head.new.lines c.in_err-book.field-0.0
    c.in_err-book.ensures.refused))

pub returns-in_err-read_end-clause-refused : goal.returns-in_err-read_end-clause-refused
returns-in_err-read_end-clause-refused c =
    let p = err_from_is_err_and c.from_residual-in_err-read_end.result
    c.from_residual-in_err-read_end.ensures.1 in
    let calls = c.in_ok-n.calls in
    let start = subst (λ (t : Unread). GoesTo setbook_rules TitleDue t
    (in_calls (no_call_read calls)) c.read_head.new.lines) c.new-lines.ensures
    (head_goes calls c.new-lines.result c.read_head.new.lines c.in_ok-n.ensures.found) in
    let lines = goes_within calls_within (no_call_read calls)
    (record { book = c.in_ok-book.book; due = [] }) c.read_head.new.lines c.read_calls.new.lines
    c.in_ok-book.ensures.found in
    let both =
    goes_then setbook_rules TitleDue (in_calls (no_call_read calls)) (InCalls c.in_ok-book.book [])
    (whole_text c.args.bytes.now) c.read_head.new.lines c.read_calls.new.lines start lines in
    rw (p.1, p.2) (stops_later setbook_rules TitleDue (InCalls c.in_ok-book.book [])
    (whole_text c.args.bytes.now) c.read_calls.new.lines c.in_err-read_end.field-0.0 both
    (set_book_no_end c.in_ok-book.book c.read_calls.new.lines c.in_err-read_end.field-0.0
    c.in_err-read_end.ensures.refused))

pub returns-clause-found : goal.returns-clause-found
returns-clause-found c =
    let calls = c.in_ok-n.calls in
    let start = subst (λ (t : Unread). GoesTo setbook_rules TitleDue t
    (in_calls (no_call_read calls)) c.read_head.new.lines) c.new-lines.ensures
    (head_goes calls c.new-lines.result c.read_head.new.lines c.in_ok-n.ensures.found) in
    let lines = goes_within calls_within (no_call_read calls)
    (record { book = c.in_ok-book.book; due = [] }) c.read_head.new.lines c.read_calls.new.lines
    c.in_ok-book.ensures.found in
    let both =
    goes_then setbook_rules TitleDue (in_calls (no_call_read calls)) (InCalls c.in_ok-book.book [])
    (whole_text c.args.bytes.now) c.read_head.new.lines c.read_calls.new.lines start lines in
    let all =
    goes_then setbook_rules TitleDue (InCalls c.in_ok-book.book []) (AtEnd c.in_ok-book.book)
    (whole_text c.args.bytes.now) c.read_calls.new.lines c.read_end.new.lines both
    (set_book_ends c.in_ok-book.book c.read_calls.new.lines c.read_end.new.lines
    c.in_ok-read_end.ensures.found) in
    (c.read_end.new.lines, record { goes = all; through = c.in_ok-read_end.ensures.found.whole })
