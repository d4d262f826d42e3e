use Rattle.std.proofs.Common.{◌<◌, arith}
use Rattle.book_base.proofs.PageLemmas.{caller_from_call}
use Rattle.smaller_book.proofs.one_key.first_call.Goals as goal

pub returns-clause-none : goal.returns-clause-none
returns-clause-none c call inside =
    let there : call.caller < c.loop-caller.caller = omega (
      arith,
      caller_from_call c.args.book.now call.caller call.number inside,
      c.loop-caller-test.false,
      c.callers-caller-end.ensures.count,
    ) in
    omega (arith, inside, c.loop-caller.invariant call.caller there)
