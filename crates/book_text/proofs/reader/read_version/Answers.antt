use Rattle.std.proofs.Common.{[], subst}
use Rattle.std.specs.Prelude.{codes}
use Rattle.std.proofs.lemmas.Result.{err_from_is_err_and}
use Rattle.text_fields.specs.Lines.{Unread}
use Rattle.text_fields.specs.Head.{TitleDue, HeadRead, head_rules}
use Rattle.text_fields.specs.Faults.{GoesTo, IsFirstFault}
use Rattle.text_fields.proofs.Sharp.{goes_then, stops_later}
use Rattle.text_fields.proofs.Within.{goes_within, fault_within, stops_within}
use Rattle.book_text.specs.CallLines.{no_call_read}
use Rattle.book_text.specs.BookRules.{InHead, InCalls, AtEnd, after_head, book_rules, whole_text}
use Rattle.book_text.proofs.CallTexts.{stops_then}
use Rattle.book_text.proofs.Lifts.{few_calls, head_within, calls_within}
use Rattle.book_text.proofs.Readings.{book_ends, book_no_end}
use Rattle.book_text.proofs.reader.read_version.Goals as goal

pub read_calls_of-requires : goal.read_calls_of-requires
read_calls_of-requires c =
    few_calls c.args.version c.in_ok-head.head.calls c.in_ok-head.ensures.says.1.few

pub returns-in_err-head-clause-refused : goal.returns-in_err-head-clause-refused
returns-in_err-head-clause-refused c =
    let p = err_from_is_err_and c.from_residual.result c.from_residual.ensures.1 in
    let fault = subst (λ (t : Unread). IsFirstFault (head_rules c.args.version (codes "book"))
    TitleDue t c.in_err-head.field-0.0) c.new-lines.ensures c.in_err-head.ensures.refused in
    rw (p.1, p.2) (fault_within (head_within c.args.version) TitleDue
    (whole_text c.args.bytes.now) c.in_err-head.field-0.0 fault)

pub returns-in_err-book-clause-refused : goal.returns-in_err-book-clause-refused
returns-in_err-book-clause-refused c =
    let p =
    err_from_is_err_and c.from_residual-in_err-book.result c.from_residual-in_err-book.ensures.1 in
    let kind = c.in_ok-head.head.kind in
    let calls = c.in_ok-head.head.calls in
    let head = subst (λ (t : Unread). GoesTo (head_rules c.args.version (codes "book")) TitleDue t
    (HeadRead kind calls) c.read_head_of.new.lines) c.new-lines.ensures
    c.in_ok-head.ensures.found in
    let start = goes_within (head_within c.args.version) TitleDue (HeadRead kind calls)
    (whole_text c.args.bytes.now) c.read_head_of.new.lines head in
    rw (p.1, p.2)
    (stops_then (book_rules c.args.version) (InHead TitleDue) (after_head (HeadRead kind calls))
    (whole_text c.args.bytes.now) c.read_head_of.new.lines c.in_err-book.field-0.0 start
    (stops_within (calls_within c.args.version kind) (no_call_read calls)
    c.read_head_of.new.lines c.in_err-book.field-0.0 c.in_err-book.ensures.refused))

pub returns-in_err-read_end-clause-refused : goal.returns-in_err-read_end-clause-refused
returns-in_err-read_end-clause-refused c =
    let p = err_from_is_err_and c.from_residual-in_err-read_end.result
    c.from_residual-in_err-read_end.ensures.1 in
    let version = c.args.version in
    let kind = c.in_ok-head.head.kind in
    let calls = c.in_ok-head.head.calls in
    let head = subst (λ (t : Unread). GoesTo (head_rules version (codes "book")) TitleDue t
    (HeadRead kind calls) c.read_head_of.new.lines) c.new-lines.ensures
    c.in_ok-head.ensures.found in
    let start = goes_within (head_within version) TitleDue (HeadRead kind calls)
    (whole_text c.args.bytes.now) c.read_head_of.new.lines head in
    let lines = goes_within (calls_within version kind) (no_call_read calls)
    (record { book = c.in_ok-book.book; due = [] })
    c.read_head_of.new.lines c.read_calls_of.new.lines c.in_ok-book.ensures.found in
    let both = goes_then (book_rules version) (InHead TitleDue) (after_head (HeadRead kind calls))
    (InCalls kind c.in_ok-book.book [])
    (whole_text c.args.bytes.now) c.read_head_of.new.lines c.read_calls_of.new.lines start lines in
    rw (p.1, p.2) (stops_later (book_rules version) (InHead TitleDue)
    (InCalls kind c.in_ok-book.book []) (whole_text c.args.bytes.now) c.read_calls_of.new.lines
    c.in_err-read_end.field-0.0 both (book_no_end version kind c.in_ok-book.book
    c.read_calls_of.new.lines c.in_err-read_end.field-0.0 c.in_err-read_end.ensures.refused))

pub returns-clause-found : goal.returns-clause-found
returns-clause-found c =
    let version = c.args.version in
    let kind = c.in_ok-head.head.kind in
    let calls = c.in_ok-head.head.calls in
    let head = subst (λ (t : Unread). GoesTo (head_rules version (codes "book")) TitleDue t
    (HeadRead kind calls) c.read_head_of.new.lines) c.new-lines.ensures
    c.in_ok-head.ensures.found in
    let start = goes_within (head_within version) TitleDue (HeadRead kind calls)
    (whole_text c.args.bytes.now) c.read_head_of.new.lines head in
    let lines = goes_within (calls_within version kind) (no_call_read calls)
    (record { book = c.in_ok-book.book; due = [] })
    c.read_head_of.new.lines c.read_calls_of.new.lines c.in_ok-book.ensures.found in
    let both = goes_then (book_rules version) (InHead TitleDue) (after_head (HeadRead kind calls))
    (InCalls kind c.in_ok-book.book [])
    (whole_text c.args.bytes.now) c.read_head_of.new.lines c.read_calls_of.new.lines start lines in
    let all = goes_then (book_rules version) (InHead TitleDue) (InCalls kind c.in_ok-book.book [])
    (AtEnd kind c.in_ok-book.book) (whole_text c.args.bytes.now) c.read_calls_of.new.lines
    c.read_end.new.lines both (book_ends version kind c.in_ok-book.book c.read_calls_of.new.lines
    c.read_end.new.lines c.in_ok-read_end.ensures.found) in
    (c.read_end.new.lines, record { goes = all; through = c.in_ok-read_end.ensures.found.whole })
