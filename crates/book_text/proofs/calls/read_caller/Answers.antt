use Rattle.std.proofs.Common.{◌≡◌, ℕ, ◌+◌, ◌-◌, ◌≤◌, suc, ◌∷◌, ◌++◌, List, ap, subst, ◌∙◌, arith}
use Rattle.std.proofs.lemmas.Result.{err_from_is_err_and}
use Rattle.book_base.specs.declared.call.Call.{Call}
use Rattle.text_fields.specs.Faults.{GoesTo}
use Rattle.text_fields.proofs.Sharp.{goes_then}
use Rattle.book_text.specs.CallLines.{BookSoFar, call_rules, calls_from}
use Rattle.book_text.proofs.CallTexts.{stops_then}
use Rattle.book_text.proofs.calls.read_caller.Goals as goal

next_due : (i k count : ℕ) (more : List Call) → suc k ≤ count → calls_from i k (count - k) ++ more
    ≡ record { caller = i; number = k } ∷ (calls_from i (k + 1) (count - (k + 1)) ++ more)
next_due i k count more lt = let one : count - k ≡ suc (count - (k + 1)) = omega arith in
    ap (λ (m : ℕ). calls_from i k m ++ more) one

pub returns-in_err-read_call-clause-refused : goal.returns-in_err-read_call-clause-refused
returns-in_err-read_call-clause-refused g c =
    let rules = call_rules c.args.version (g.T.OpText.operations c.args.operations.now) in
    let p = err_from_is_err_and c.from_residual.result c.from_residual.ensures.1 in
    let k = c.loop-number.number in
    rw (p.1, p.2) (λ more.
    let start : BookSoFar =
    record { book = c.args.book.now; due = calls_from c.args.i 0 c.args.count ++ more } in
    let here = subst (λ (calls : List Call). GoesTo rules start c.args.lines.now
    (record { book = c.loop-number.book; due = calls }) c.loop-number.lines)
    (next_due c.args.i k c.args.count more c.loop-number-test.true)
    (c.loop-number.invariant.goes more) in
    stops_then rules start _ c.args.lines.now c.loop-number.lines c.in_err-read_call.field-0.0 here
    (c.in_err-read_call.ensures.refused
    (calls_from c.args.i (k + 1) (c.args.count - (k + 1)) ++ more)))

pub loop-number-preserved : goal.loop-number-preserved
loop-number-preserved g c =
    let rules = call_rules c.args.version (g.T.OpText.operations c.args.operations.now) in
    let k = c.loop-number.number in
    record {
      goes = λ more.
          let start : BookSoFar =
          record { book = c.args.book.now; due = calls_from c.args.i 0 c.args.count ++ more } in
          let here = subst (λ (calls : List Call). GoesTo rules start c.args.lines.now
          (record { book = c.loop-number.book; due = calls }) c.loop-number.lines)
          (next_due c.args.i k c.args.count more c.loop-number-test.true)
          (c.loop-number.invariant.goes more) in
          goes_then rules start _ _ c.args.lines.now c.loop-number.lines c.read_call.new.lines here
          (c.in_ok-read_call.ensures.found
          (calls_from c.args.i (k + 1) (c.args.count - (k + 1)) ++ more));
      calls = λ j. c.in_ok-read_call.ensures.calls j ∙ c.loop-number.invariant.calls j;
      own = c.in_ok-read_call.ensures.answers;
      others = λ j other. c.in_ok-read_call.ensures.others j other
          ∙ c.loop-number.invariant.others j other;
    }
