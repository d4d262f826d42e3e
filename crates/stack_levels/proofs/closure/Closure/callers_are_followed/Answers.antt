use Rattle.std.proofs.Common.{arith, below_more}
use Rattle.book_base.proofs.PageLemmas.{caller_from_call}
use Rattle.stack_levels.proofs.closure.Closure.callers_are_followed.Goals as goal

pub loop-caller-preserved : goal.loop-caller-preserved
loop-caller-preserved g c = below_more _ _ c.loop-caller.invariant
    (c.caller_is_followed.ensures c.if-not-caller_is_followed.false)

pub returns : goal.returns
returns g c told i marked =
    let may = (c.requires.all i).0 (c.requires.fewer i marked) in
    let there = caller_from_call c.args.self.now.on.now.book.now i _ may.is_call in
    c.loop-caller.invariant i
    (omega (arith, there, c.callers-caller-end.ensures.count, c.loop-caller-test.false)) marked
