use Rattle.std.proofs.Common.{◌≡◌, ℕ, ◌<◌, ◌+◌, ◌++◌, List, length, drop, sym, ap, subst, ◌∙◌, arith}
use Rattle.std.proofs.lemmas.Result.{err_from_is_err_and}
use Rattle.book_base.specs.declared.call.Call.{Call}
use Rattle.text_fields.specs.Faults.{GoesTo}
use Rattle.book_base.specs.Book.{Page, calls_of, answers_of, unanswered_book}
use Rattle.text_fields.proofs.Sharp.{goes_nowhere, goes_then}
use Rattle.book_text.specs.CallLines.{call_rules, calls_from, all_calls, reading, no_call_read}
use Rattle.book_text.proofs.CallTexts.{stops_then, next_caller, calls_of-unanswered, answers_of-unanswered}
use Rattle.book_text.proofs.calls.read_calls_of.Goals as goal

pub returns-in_err-read_caller-clause-refused : goal.returns-in_err-read_caller-clause-refused
returns-in_err-read_caller-clause-refused g c =
    let rules = call_rules c.args.version (g.T.OpText.operations c.args.operations.now) in
    let p = err_from_is_err_and c.from_residual-in_err-read_caller.result
    c.from_residual-in_err-read_caller.ensures.1 in
    let i = c.loop-i.i in
    let calls = c.args.calls.now in
    let lt : i < length calls = omega (arith, c.n-i-end.ensures.count) in
    let next = next_caller calls i lt ∙ ap
    (λ (n : ℕ). calls_from i 0 n ++ all_calls (i + 1) (drop (i + 1) calls)) (sym c.get.ensures) in
    let here = subst (λ (due : List Call). GoesTo rules (no_call_read calls) c.args.lines.now
    (record { book = c.loop-i.book; due = due }) c.loop-i.lines) next c.loop-i.invariant.goes in
    rw (p.1, p.2) (stops_then rules
    (no_call_read calls) _ c.args.lines.now c.loop-i.lines c.in_err-read_caller.field-0.0 here
    (c.in_err-read_caller.ensures.refused (all_calls (i + 1) (drop (i + 1) calls))))

pub loop-i-init : goal.loop-i-init
loop-i-init g c =
    let rules = call_rules c.args.version (g.T.OpText.operations c.args.operations.now) in
    let calls = c.args.calls.now in
    let made : c.in_ok-book.book ≡ unanswered_book calls = c.in_ok-book.ensures in
    record {
      goes = subst (λ (book : List Page). GoesTo rules (no_call_read calls) c.args.lines.now
          (reading book (all_calls 0 calls)) c.args.lines.now) (sym made)
          (goes_nowhere rules (no_call_read calls) c.args.lines.now);
      calls = λ j. ap (λ (book : List Page). calls_of book j) made ∙ calls_of-unanswered calls j;
      unanswered =
          λ j le. ap (λ (book : List Page). answers_of book j) made ∙ answers_of-unanswered calls j;
    }

pub loop-i-preserved : goal.loop-i-preserved
loop-i-preserved g c =
    let rules = call_rules c.args.version (g.T.OpText.operations c.args.operations.now) in
    let i = c.loop-i.i in
    let calls = c.args.calls.now in
    let lt : i < length calls = omega (arith, c.n-i-end.ensures.count) in
    let next = next_caller calls i lt ∙ ap
    (λ (n : ℕ). calls_from i 0 n ++ all_calls (i + 1) (drop (i + 1) calls)) (sym c.get.ensures) in
    let here = subst (λ (due : List Call). GoesTo rules (no_call_read calls) c.args.lines.now
    (record { book = c.loop-i.book; due = due }) c.loop-i.lines) next c.loop-i.invariant.goes in
    record {
      goes = goes_then rules
          (no_call_read calls) _ _ c.args.lines.now c.loop-i.lines c.read_caller.new.lines here
          (c.in_ok-read_caller.ensures.found (all_calls (i + 1) (drop (i + 1) calls)));
      calls = λ j. c.in_ok-read_caller.ensures.calls j ∙ c.loop-i.invariant.calls j;
      unanswered = λ j le. c.in_ok-read_caller.ensures.others j (λ same. omega (arith, same, le))
          ∙ c.loop-i.invariant.unanswered j (omega (arith, le));
    }
