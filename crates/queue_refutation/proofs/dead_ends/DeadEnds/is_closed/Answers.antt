use Rattle.std.proofs.Common.{arith, rules}
use Rattle.queue_refutation.proofs.Passing.{not-whole}
use Rattle.queue_refutation.proofs.Ending.{closed-by_all, closed-at_once}
use Rattle.queue_refutation.proofs.dead_ends.DeadEnds.is_closed.Goals as goal

pub finds_stand_at_once-requires : goal.finds_stand_at_once-requires
finds_stand_at_once-requires c =
    record { next_entries = c.of-next_entries.ensures; few = omega arith }

pub returns-then-finds_stand_at_once : goal.returns-then-finds_stand_at_once
returns-then-finds_stand_at_once c told =
    closed-at_once _ _ c.args.standing.now (first_of (omega arith, grind arith, search rules))
    (first_of (omega arith, grind arith, search rules))
    (c.finds_stand_at_once.ensures c.if-finds_stand_at_once.true)

pub returns : goal.returns
returns c told =
    closed-by_all _ _ c.args.standing.now (first_of (omega arith, grind arith, search rules))
    (first_of (omega arith, grind arith, search rules)) (omega arith)
    (λ reading book is. not-whole reading book c.args.self.now.table.now c.args.standing.now
    c.of-next_entries.result is c.of-next_entries.ensures (omega arith)
    (λ whole. let all = c.is_whole.ensures.1 whole in absurd (cc (all, c.if-is_whole.false))))
    (c.finds_lead.ensures c.if-not-finds_lead.false) (c.pairs_lead.ensures told)
