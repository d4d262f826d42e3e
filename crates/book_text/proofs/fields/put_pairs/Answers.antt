use Rattle.std.proofs.Common.{arith}
use Rattle.book_text.proofs.WrittenLines.{step_pairs}
use Rattle.book_text.proofs.fields.put_pairs.Goals as goal

pub loop-j-preserved : goal.loop-j-preserved
loop-j-preserved c =
    step_pairs c.args.out.now.items c.loop-j.out.items c.put_pair.new.out.items c.args.cut.now
    c.loop-j.j c.get.result
    (omega (arith, c.n-j-end.ensures.count, c.loop-j-test.true)) c.get.ensures c.loop-j.invariant
    c.in_ok-put_pair.ensures
