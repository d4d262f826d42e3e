use Rattle.std.proofs.Common.{arith}
use Rattle.book_text.proofs.WrittenLines.{step_counts}
use Rattle.book_text.proofs.fields.put_counts.Goals as goal

pub loop-i-preserved : goal.loop-i-preserved
loop-i-preserved c =
    step_counts c.args.out.now.items c.loop-i.out.items c.put_spaced.new.out.items c.args.cut.now
    c.loop-i.i c.get.result
    (omega (arith, c.n-i-end.ensures.count, c.loop-i-test.true)) c.get.ensures c.loop-i.invariant
    c.in_ok-put_spaced.ensures
