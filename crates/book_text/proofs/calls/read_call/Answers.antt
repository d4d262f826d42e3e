use Rattle.std.proofs.Common.{◌<◌, ◌^◌, List, ◌∷◌, length, ap, ◌∙◌, refl, arith}
use Rattle.std.proofs.lemmas.Result.{err_from_is_err_and}
use Rattle.book_text.specs.CallLines.{BookSoFar}
use Rattle.book_base.specs.Book.{Page, calls_of, answers_of}
use Rattle.book_base.proofs.PageLemmas.{caller_from_call}
use Rattle.text_fields.specs.Lines.{words_of}
use Rattle.text_fields.proofs.Sharp.{goes_line, stops_cut, stops_line}
use Rattle.book_text.specs.CallLines.{call_rules, view_test}
use Rattle.book_text.proofs.CallTexts.{right_line, calls_of-with_line, answers_of-with_line, answers_of-with_line_own, entry_first, refused_first, stops_refused}
use Rattle.book_text.proofs.calls.read_call.Goals as goal

pub returns-in_err-line-clause-refused : goal.returns-in_err-line-clause-refused
returns-in_err-line-clause-refused g c =
    let rules = call_rules c.args.version (g.T.OpText.operations c.args.operations.now) in
    let p = err_from_is_err_and c.from_residual.result c.from_residual.ensures.1 in
    rw (p.1, p.2)
    (λ more. stops_cut rules (record { book = c.args.book.now; due = c.args.call ∷ more })
    c.args.lines.now c.in_err-line.field-0.0 refl c.in_err-line.ensures.cut.0)

pub returns-in-Ok-record_entry-clause-found : goal.returns-in-Ok-record_entry-clause-found
returns-in-Ok-record_entry-clause-found g c = λ more.
    let operations = g.T.OpText.operations c.args.operations.now in
    let entry = rw (c.callers-n.ensures.count, c.is_gap-gap.ensures) at c.in-Ok.ensures.found in
    goes_line (call_rules c.args.version operations)
    (record { book = c.args.book.now; due = c.args.call ∷ more })
    (record { book = c.record_entry.new.book; due = more }) c.args.lines.now c.line.new.self
    c.in_ok-line.line.now c.in_ok-line.ensures.line (
      right_line c.args.version operations c.args.book.now c.args.call
          (words_of c.in_ok-line.line.now) c.in-Ok.entry.op c.in-Ok.entry.answer
          c.record_entry.new.book (record {
            caller =
                caller_from_call c.args.book.now c.args.call.caller c.args.call.number
                c.requires.call;
            callers = c.callers-n.ensures.small.callers;
            number = omega arith;
          }) entry c.in-Ok-record_entry.ensures.may c.in-Ok-record_entry.ensures.ok,
      refl,
    )

pub returns-in-Ok-record_entry-clause-calls : goal.returns-in-Ok-record_entry-clause-calls
returns-in-Ok-record_entry-clause-calls g c =
    λ j. ap (λ (b : List Page). calls_of b j) c.in-Ok-record_entry.ensures.ok
    ∙ calls_of-with_line c.args.book.now c.args.call _ _ j
    (caller_from_call c.args.book.now c.args.call.caller c.args.call.number c.requires.call)

pub returns-in-Ok-record_entry-clause-others : goal.returns-in-Ok-record_entry-clause-others
returns-in-Ok-record_entry-clause-others g c =
    λ j other. ap (λ (b : List Page). answers_of b j) c.in-Ok-record_entry.ensures.ok
    ∙ answers_of-with_line c.args.book.now c.args.call _ _ j
    (caller_from_call c.args.book.now c.args.call.caller c.args.call.number c.requires.call) other

pub returns-in-Ok-record_entry-clause-answers : goal.returns-in-Ok-record_entry-clause-answers
returns-in-Ok-record_entry-clause-answers g c =
    omega (
      arith,
      ap (λ (b : List Page). answers_of b c.args.call.caller) c.in-Ok-record_entry.ensures.ok,
      c.requires.unanswered,
      answers_of-with_line_own c.args.book.now c.args.call c.in-Ok.entry.op c.in-Ok.entry.answer
          (caller_from_call c.args.book.now c.args.call.caller c.args.call.number c.requires.call),
    )

pub returns-in-Err-record_entry-clause-refused : goal.returns-in-Err-record_entry-clause-refused
returns-in-Err-record_entry-clause-refused g c = λ more.
    let operations = g.T.OpText.operations c.args.operations.now in
    let entry = rw (c.callers-n.ensures.count, c.is_gap-gap.ensures) at c.in-Ok.ensures.found in
    let small : length c.args.book.now < 2 ^ 64 = omega arith in
    let due : BookSoFar = record { book = c.args.book.now; due = c.args.call ∷ more } in
    let rules = call_rules c.args.version operations in
    stops_refused rules due c.args.lines.now c.number-number.result
    (view_test c.in-Err-record_entry.fault) c.refusal.result c.refusal.ensures.text
    c.refusal.ensures.memory
    (λ name e. rw c.number-number.ensures (stops_line rules due c.args.lines.now c.line.new.self
    c.in_ok-line.line.now name refl c.in_ok-line.ensures.line
    (refused_first c.args.version operations c.args.book.now c.args.call
    (words_of c.in_ok-line.line.now) (g.met.T.OpText.one_operation c.args.operations.now) small more
    c.in-Ok.entry.op c.in-Ok.entry.answer c.in-Err-record_entry.fault name entry
    c.in-Err-record_entry.ensures.refused e)))

pub returns-in-Err-clause-refused : goal.returns-in-Err-clause-refused
returns-in-Err-clause-refused g c = λ more.
    let operations = g.T.OpText.operations c.args.operations.now in
    let first = rw (c.callers-n.ensures.count, c.is_gap-gap.ensures) at c.in-Err.ensures.refused in
    let small : length c.args.book.now < 2 ^ 64 = omega arith in
    let due : BookSoFar = record { book = c.args.book.now; due = c.args.call ∷ more } in
    let rules = call_rules c.args.version operations in
    rw c.number-number.ensures (stops_line rules due c.args.lines.now c.line.new.self
    c.in_ok-line.line.now c.in-Err.what refl c.in_ok-line.ensures.line
    (entry_first c.args.version operations c.args.book.now c.args.call
    (words_of c.in_ok-line.line.now)
    (g.met.T.OpText.one_operation c.args.operations.now) small more c.in-Err.what first))
