use Rattle.std.proofs.Common.{subst}
use Rattle.queue_refutation.specs.Closed.{IsOnePaired}
use Rattle.queue_refutation.specs.DeadEnds.{listed}
use Rattle.queue_refutation.proofs.dead_ends.DeadEnds.leads.Goals as goal

pub returns : goal.returns
returns c told =
    let put = c.is_small.ensures c.if-not-is_small.false in
    let take = c.is_small-2.ensures c.if-not-is_small-2.false in
    subst (IsOnePaired (listed c.args.self.now.standings.now.keys))
    (c.with_pair.ensures put.0 put.1 take.0 take.1) (c.has.ensures told)
