use Rattle.std.proofs.Common.{subst}
use Rattle.queue_refutation.specs.Closed.{IsOnePaired}
use Rattle.queue_refutation.specs.DeadEnds.{listed}
use Rattle.queue_refutation.proofs.Ending.{refuted}
use Rattle.queue_refutation.proofs.dead_ends.DeadEnds.refute.Goals as goal

pub returns : goal.returns
returns c told =
    refuted c.args.self.now.table.now c.args.book.now (listed c.args.self.now.standings.now.keys)
    (λ reading is. c.has_one_open.ensures.one c.if-not-has_one_open.false)
    (subst (IsOnePaired (listed c.args.self.now.standings.now.keys)) c.start.ensures
    (c.has.ensures c.if-not-has.false)) (c.are_closed.ensures told)
