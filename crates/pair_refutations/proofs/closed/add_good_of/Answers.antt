use Rattle.std.proofs.Common.{arith}
use Rattle.pair_refutations.specs.Tabled.{standings_of}
use Rattle.pair_refutations.proofs.Leading.{good-row}
use Rattle.pair_refutations.proofs.closed.add_good_of.Goals as goal

pub returns : goal.returns
returns c reading book is good =
    good-row reading book c.args.table.now (standings_of c.args.standings.now)
    c.args.standing.now c.args.putter c.loop-taker.taker c.loop-taker.good.items is
    (omega (arith, c.loop-taker-test.false)) (c.loop-taker.invariant reading book is good)
