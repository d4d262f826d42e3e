use Rattle.std.proofs.Common.{arith, below_more}
use Rattle.queue_refutation.proofs.Ending.{all-closed}
use Rattle.queue_refutation.proofs.dead_ends.DeadEnds.are_closed.Goals as goal

pub loop-place-preserved : goal.loop-place-preserved
loop-place-preserved c =
    below_more _ _ c.loop-place.invariant (c.is_closed_at.ensures c.if-not-is_closed_at.false)

pub returns : goal.returns
returns c told =
    all-closed c.args.self.now.table.now c.args.self.now.standings.now.keys
    (λ place inside. c.loop-place.invariant place
    (omega (arith, inside, c.len-place-end.ensures.len, c.loop-place-test.false)))
