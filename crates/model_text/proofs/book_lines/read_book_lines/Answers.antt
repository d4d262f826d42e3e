use Rattle.std.proofs.Common.{[]}
use Rattle.std.proofs.lemmas.Result.{err_from_is_err_and}
use Rattle.text_fields.specs.declared.version.Version.TheVariants.{Second}
use Rattle.text_fields.proofs.Sharp.{goes_then, stops_later}
use Rattle.text_fields.proofs.Within.{goes_within, stops_within}
use Rattle.book_text.specs.CallLines.{no_call_read}
use Rattle.book_text.proofs.CallTexts.{stops_then}
use Rattle.book_text.proofs.Lifts.{few_calls}
use Rattle.model_text.specs.ModelBookRules.{InCalls, in_calls}
use Rattle.model_text.specs.ModelRules.{InBook, StepsDue, nothing_read, model_rules}
use Rattle.model_text.proofs.BookParts.{calls_within}
use Rattle.model_text.proofs.book_lines.read_book_lines.Goals as goal

pub read_calls-requires : goal.read_calls-requires
read_calls-requires c = record {
  callers = c.in_ok-n.ensures.says.1.count;
  few = few_calls Second c.in_ok-n.calls c.in_ok-n.ensures.says.1.few;
}

pub returns-in_err-book-clause-refused : goal.returns-in_err-book-clause-refused
returns-in_err-book-clause-refused c =
    let p =
    err_from_is_err_and c.from_residual-in_err-book.result c.from_residual-in_err-book.ensures.1 in
    let calls = c.in_ok-n.calls in
    rw (p.1, p.2) (stops_then model_rules nothing_read (InBook (in_calls (no_call_read calls)))
    c.args.lines.now c.read_head.new.lines c.in_err-book.field-0.0 c.in_ok-n.ensures.found
    (stops_within calls_within (no_call_read calls) c.read_head.new.lines
    c.in_err-book.field-0.0 c.in_err-book.ensures.refused))

pub returns-in_err-read_book_end-clause-refused : goal.returns-in_err-read_book_end-clause-refused
returns-in_err-read_book_end-clause-refused c =
    let p = err_from_is_err_and c.from_residual-in_err-read_book_end.result
    c.from_residual-in_err-read_book_end.ensures.1 in
    let calls = c.in_ok-n.calls in
    let lines = goes_within calls_within (no_call_read calls)
    (record { book = c.in_ok-book.book; due = [] }) c.read_head.new.lines c.read_calls.new.lines
    c.in_ok-book.ensures.found in
    let both = goes_then model_rules nothing_read (InBook (in_calls (no_call_read calls)))
    (InBook (InCalls c.in_ok-book.book [])) c.args.lines.now c.read_head.new.lines
    c.read_calls.new.lines c.in_ok-n.ensures.found lines in
    rw (p.1, p.2)
    (stops_later model_rules nothing_read (InBook (InCalls c.in_ok-book.book []))
    c.args.lines.now c.read_calls.new.lines c.in_err-read_book_end.field-0.0 both
    (c.in_err-read_book_end.ensures.refused c.in_ok-book.book))

pub returns-clause-found : goal.returns-clause-found
returns-clause-found c =
    let calls = c.in_ok-n.calls in
    let lines = goes_within calls_within (no_call_read calls)
    (record { book = c.in_ok-book.book; due = [] }) c.read_head.new.lines c.read_calls.new.lines
    c.in_ok-book.ensures.found in
    let both = goes_then model_rules nothing_read (InBook (in_calls (no_call_read calls)))
    (InBook (InCalls c.in_ok-book.book [])) c.args.lines.now c.read_head.new.lines
    c.read_calls.new.lines c.in_ok-n.ensures.found lines in
    goes_then model_rules nothing_read (InBook (InCalls c.in_ok-book.book []))
    (StepsDue c.in_ok-book.book) c.args.lines.now c.read_calls.new.lines
    c.read_book_end.new.lines both (c.in_ok-read_book_end.ensures.found c.in_ok-book.book)
