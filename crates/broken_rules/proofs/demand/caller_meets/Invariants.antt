use Rattle.std.proofs.Common.{ℕ, ◌<◌}
use Rattle.broken_rules.specs.Demands.{Meets}
use Rattle.broken_rules.proofs.demand.caller_meets.Given as goal

abbrev pub invariant-loop-number : goal.invariant-loop-number
invariant-loop-number l = (k : ℕ) → k < l.number
    → Meets l.kind l.book l.demand l.first l.second (record { caller = l.caller; number = k })
