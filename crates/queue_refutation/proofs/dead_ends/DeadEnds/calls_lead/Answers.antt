use Rattle.std.proofs.Common.{subst}
use Rattle.queue_pairs.specs.declared.table.TimedCall.{TimedCall}
use Rattle.queue_refutation.specs.DeadEnds.{listed, Lead, IsOf}
use Rattle.queue_refutation.proofs.Ending.{lead-idle, lead-unheld_put, lead-unheld_take, lead-apart, next-pair}
use Rattle.queue_refutation.proofs.dead_ends.DeadEnds.calls_lead.Goals as goal

pub returns-then-not-is_held : goal.returns-then-not-is_held
returns-then-not-is_held c told =
    lead-unheld_put _ _ c.args.standing.now c.args.put c.args.take c.requires.put
    (λ held. let so = c.is_held.ensures.1 held in absurd (cc (so, c.if-not-is_held.true)))

pub returns-then-not-is_held-2 : goal.returns-then-not-is_held-2
returns-then-not-is_held-2 c told =
    lead-unheld_take _ _ c.args.standing.now c.args.put c.args.take c.requires.take
    (λ held. let so = c.is_held-2.ensures.1 held in absurd (cc (so, c.if-not-is_held-2.true)))

pub returns-then-not-may_take : goal.returns-then-not-may_take
returns-then-not-may_take c told =
    lead-apart _ _ c.args.standing.now c.args.put c.args.take c.requires.put c.requires.take
    (λ v puts takes. let so = c.may_take.ensures v puts takes in
    absurd (cc (so, c.if-not-may_take.true)))

pub returns-then-is_idle : goal.returns-then-is_idle
returns-then-is_idle c told =
    let late = c.is_idle.ensures c.if-is_idle.true in
    lead-idle _ _ c.args.standing.now c.args.put c.args.take c.requires.put c.requires.take
    late.0 late.1

pub pair_leads-requires-clause-pair : goal.pair_leads-requires-clause-pair
pair_leads-requires-clause-pair c =
    let e = c.earliest-pair.ensures in
    next-pair c.args.self.now.table.now c.args.standing.now c.args.put c.args.take
    c.earliest-pair.result c.requires.put c.requires.take
    (c.is_held.ensures.0 c.if-not-is_held.false)
    (c.is_held-2.ensures.0 c.if-not-is_held-2.false) e.put e.take e.put_moment e.take_moment

pub returns : goal.returns
returns c told =
    let e = c.earliest-pair.ensures in
    let lead = λ (put take : TimedCall). Lead (IsOf put.call take.call) c.args.self.now.table.now
    (listed c.args.self.now.standings.now.keys) c.args.standing.now in
    subst (λ (put : TimedCall). lead put c.args.take) e.put
    (subst (lead c.earliest-pair.result.put) e.take (c.pair_leads.ensures told))
