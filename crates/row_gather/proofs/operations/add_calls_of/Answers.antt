use Rattle.std.proofs.Common.{◌∙◌, ℕ, ◌<◌, List, length, sum, sym, ap, subst, arith}
use Rattle.book_base.specs.Book.{Page, calls_of, announced}
use Rattle.row_table.specs.Callers.{local_with}
use Rattle.row_gather.specs.Words.{IsPeekedOperation}
use Rattle.row_gather.proofs.Peeking.{all_stay, alone_then}
use Rattle.row_gather.proofs.Reading.{calls_of-with_call_same, calls_of-with_call_other, sum_announced-with_call, peeked_calls_more}
use Rattle.row_gather.proofs.operations.add_calls_of.Goals as goal

pub returns-in_err-add_call-clause-peeks : goal.returns-in_err-add_call-clause-peeks
returns-in_err-add_call-clause-peeks g c = alone_then g.P.Program.meaning c.args.rows.now _ _ _ _ _
    _ c.loop-number.invariant.alone c.peek_operation-op.ensures.peeks

pub loop-number-preserved : goal.loop-number-preserved
loop-number-preserved g c =
    let was = c.loop-number.invariant in
    let step = c.peek_operation-op.ensures.peeks in
    let j = c.args.j in
    let op = c.peek_operation-op.result in
    let book = c.loop-number.book in
    let new = c.add_call.new.book in
    let low : j < length book =
    omega (arith, was.same.callers, c.requires.callers, c.requires.caller_fits) in
    let is = c.in_ok-add_call.ensures in
    let here = subst (λ (k : ℕ). IsPeekedOperation (local_with c.peek_operation-op.new.caller)
    (record { caller = j; number = k }) op) (sym was.mine) c.peek_operation-op.ensures.operation in
    record {
      alone = alone_then g.P.Program.meaning c.args.rows.now _ _ _ _ _ _ was.alone step;
      ticks = omega (
        arith,
        was.ticks,
        c.peek_operation-op.ensures.ticks,
        ap (λ (b : List Page). sum (announced b)) is,
        sum_announced-with_call book j op low,
      );
      same = peeked_calls_more (local_with c.loop-number.caller)
          (local_with c.peek_operation-op.new.caller) j op c.args.book.now book new
          (all_stay (local_with c.loop-number.caller)
          (local_with c.peek_operation-op.new.caller) _ _ step.peeks) was.same
          (omega (arith, c.requires.callers, c.requires.caller_fits)) here is;
      mine = omega (
        arith,
        ap (λ (b : List Page). calls_of b j) is,
        calls_of-with_call_same book j op low,
        was.mine,
      );
      most = omega (arith, c.loop-number-test.true);
      others = λ i other. ap (λ (b : List Page). calls_of b i) is
          ∙ (calls_of-with_call_other book j op i other ∙ was.others i other);
    }

pub returns-clause-calls : goal.returns-clause-calls
returns-clause-calls g c =
    let was = c.loop-number.invariant in
    record {
      mine = omega (arith, was.mine, was.most, c.calls-number.ensures, c.loop-number.auto.number);
      others = was.others;
    }
