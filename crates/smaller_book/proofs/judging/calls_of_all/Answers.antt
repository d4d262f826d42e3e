use Rattle.std.proofs.Common.{◌≤◌, arith}
use Rattle.book_base.specs.Book.{calls_of}
use Rattle.smaller_book.proofs.Sizes.{calls_more}
use Rattle.smaller_book.proofs.judging.calls_of_all.Goals as goal

pub overflow_add-total : goal.overflow_add-total
overflow_add-total c =
    let few : calls_of c.args.book.now c.loop-caller.caller ≤ 256 =
    c.callers-caller-end.ensures.small.calls c.loop-caller.caller in
    omega (arith, few, c.calls-total.ensures, c.loop-caller.invariant.most)

pub loop-caller-preserved : goal.loop-caller-preserved
loop-caller-preserved c =
    let book = c.args.book.now in
    let i = c.loop-caller.caller in
    let few : calls_of book i ≤ 256 = c.callers-caller-end.ensures.small.calls i in
    record {
      counted = omega (
        arith,
        c.calls-total.ensures,
        calls_more book i c.loop-caller.total
            (omega (arith, c.callers-caller-end.ensures.count)) c.loop-caller.invariant.counted,
      );
      most = omega (arith, few, c.calls-total.ensures, c.loop-caller.invariant.most);
    }
