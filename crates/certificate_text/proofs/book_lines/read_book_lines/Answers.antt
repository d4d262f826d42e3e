use Rattle.std.proofs.Common.{[]}
use Rattle.std.proofs.lemmas.Result.{err_from_is_err_and}
use Rattle.text_fields.specs.declared.version.Version.TheVariants.{Second}
use Rattle.text_fields.specs.Head.{TitleDue, HeadRead}
use Rattle.text_fields.proofs.Sharp.{goes_then, stops_later}
use Rattle.text_fields.proofs.Within.{goes_within, fault_within, stops_within}
use Rattle.book_text.specs.CallLines.{no_call_read}
use Rattle.book_text.specs.BookRules.{InHead, InCalls, AtEnd, after_head}
use Rattle.book_text.proofs.CallTexts.{stops_then}
use Rattle.book_text.proofs.Lifts.{few_calls}
use Rattle.certificate_text.specs.Reading.{book_part}
use Rattle.certificate_text.proofs.BookParts.{head_within, calls_within}
use Rattle.certificate_text.proofs.book_lines.read_book_lines.Goals as goal

pub read_calls-requires : goal.read_calls-requires
read_calls-requires c = record {
  callers = c.in_ok-head.ensures.says.1.count;
  few = few_calls Second c.in_ok-head.head.calls c.in_ok-head.ensures.says.1.few;
}

pub returns-in_err-head-clause-refused : goal.returns-in_err-head-clause-refused
returns-in_err-head-clause-refused c =
    let p = err_from_is_err_and c.from_residual.result c.from_residual.ensures.1 in
    rw (p.1, p.2) (fault_within head_within TitleDue c.args.lines.now c.in_err-head.field-0.0
    c.in_err-head.ensures.refused)

pub returns-in_err-book-clause-refused : goal.returns-in_err-book-clause-refused
returns-in_err-book-clause-refused c =
    let p =
    err_from_is_err_and c.from_residual-in_err-book.result c.from_residual-in_err-book.ensures.1 in
    let kind = c.in_ok-head.head.kind in
    let calls = c.in_ok-head.head.calls in
    let start = goes_within head_within TitleDue
    (HeadRead kind calls) c.args.lines.now c.read_head.new.lines c.in_ok-head.ensures.found in
    rw (p.1, p.2) (stops_then book_part (InHead TitleDue) (after_head (HeadRead kind calls))
    c.args.lines.now c.read_head.new.lines c.in_err-book.field-0.0 start
    (stops_within (calls_within kind) (no_call_read calls) c.read_head.new.lines
    c.in_err-book.field-0.0 c.in_err-book.ensures.refused))

pub returns-in_err-read_book_end-clause-refused : goal.returns-in_err-read_book_end-clause-refused
returns-in_err-read_book_end-clause-refused c =
    let p = err_from_is_err_and c.from_residual-in_err-read_book_end.result
    c.from_residual-in_err-read_book_end.ensures.1 in
    let kind = c.in_ok-head.head.kind in
    let calls = c.in_ok-head.head.calls in
    let start = goes_within head_within TitleDue
    (HeadRead kind calls) c.args.lines.now c.read_head.new.lines c.in_ok-head.ensures.found in
    let lines = goes_within (calls_within kind) (no_call_read calls)
    (record { book = c.in_ok-book.book; due = [] }) c.read_head.new.lines c.read_calls.new.lines
    c.in_ok-book.ensures.found in
    let both = goes_then book_part (InHead TitleDue) (after_head (HeadRead kind calls))
    (InCalls kind c.in_ok-book.book []) c.args.lines.now c.read_head.new.lines
    c.read_calls.new.lines start lines in
    rw (p.1, p.2)
    (stops_later book_part (InHead TitleDue) (InCalls kind c.in_ok-book.book [])
    c.args.lines.now c.read_calls.new.lines c.in_err-read_book_end.field-0.0 both
    (c.in_err-read_book_end.ensures.refused kind c.in_ok-book.book))

pub returns-clause-found : goal.returns-clause-found
returns-clause-found c =
    let kind = c.in_ok-head.head.kind in
    let calls = c.in_ok-head.head.calls in
    let start = goes_within head_within TitleDue
    (HeadRead kind calls) c.args.lines.now c.read_head.new.lines c.in_ok-head.ensures.found in
    let lines = goes_within (calls_within kind) (no_call_read calls)
    (record { book = c.in_ok-book.book; due = [] }) c.read_head.new.lines c.read_calls.new.lines
    c.in_ok-book.ensures.found in
    let both = goes_then book_part (InHead TitleDue) (after_head (HeadRead kind calls))
    (InCalls kind c.in_ok-book.book []) c.args.lines.now c.read_head.new.lines
    c.read_calls.new.lines start lines in
    goes_then book_part (InHead TitleDue) (InCalls kind c.in_ok-book.book [])
    (AtEnd kind c.in_ok-book.book) c.args.lines.now c.read_calls.new.lines
    c.read_book_end.new.lines both (c.in_ok-read_book_end.ensures.found kind c.in_ok-book.book)
