use Rattle.std.proofs.Common.{arith}
use Rattle.run_report.proofs.settling.settle_all.Goals as goal

pub settle_at-requires-clause-place : goal.settle_at-requires-clause-place
settle_at-requires-clause-place g c =
    omega (
      arith,
      c.loop-place-test.true,
      c.loop-place.invariant.workers.all,
      c.release_all.ensures.workers.all,
    )
