use Rattle.queue_refutation.proofs.Ending.{next-pair}
use Rattle.queue_refutation.proofs.dead_ends.DeadEnds.calls_serve.Goals as goal

pub returns : goal.returns
returns c told =
    let e = c.earliest-other.ensures in (
      c.earliest-other.result,
      next-pair c.args.self.now.table.now c.args.standing.now c.args.put c.args.take
          c.earliest-other.result c.requires.put c.requires.take
          c.requires.held (c.is_held.ensures.0 c.if-not-is_held.false) e.put e.take e.put_moment
          e.take_moment,
      c.serves.ensures c.if-not-serves.false,
      c.leads.ensures told,
    )
