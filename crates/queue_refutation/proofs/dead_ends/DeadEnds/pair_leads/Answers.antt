use Rattle.std.proofs.Common.{arith}
use Rattle.queue_refutation.proofs.Ending.{lead-served, lead-past, serves-itself}
use Rattle.queue_refutation.proofs.dead_ends.DeadEnds.pair_leads.Goals as goal

pub returns-then-is_past : goal.returns-then-is_past
returns-then-is_past c told =
    let pair = c.requires.pair in
    lead-past _ _ c.args.standing.now c.args.next_entries.now c.args.pair.now
    c.requires.next_entries pair
    (omega (arith, pair.put_moment, pair.put_held, c.requires.turn, c.requires.few))
    (omega (
      arith,
      pair.put_moment,
      pair.put_held,
      pair.take_moment,
      pair.take_held,
      c.requires.turn,
      c.requires.few,
    ))
    (c.is_past.ensures.0 c.if-is_past.true)

pub returns-then-leads : goal.returns-then-leads
returns-then-leads c told =
    lead-served _ _ c.args.standing.now c.args.pair.now c.requires.pair (
      c.args.pair.now,
      c.requires.pair,
      serves-itself c.args.pair.now,
      c.leads.ensures c.if-leads.true,
    )

pub returns : goal.returns
returns c told =
    lead-served _ _ c.args.standing.now c.args.pair.now c.requires.pair (c.is_served.ensures told)
