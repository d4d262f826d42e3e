use Rattle.std.proofs.Common.{ℕ, ◌<◌}
use Rattle.queue_refutation.specs.DeadEnds.{listed, Lead, IsOfTaker}
use Rattle.queue_refutation.proofs.dead_ends.DeadEnds.put_leads.Given as goal

abbrev pub invariant-loop-caller : goal.invariant-loop-caller
invariant-loop-caller l = (k : ℕ) → k < l.caller
    → Lead (IsOfTaker l.put.call k) l.self.table.now (listed l.self.standings.now.keys) l.standing
