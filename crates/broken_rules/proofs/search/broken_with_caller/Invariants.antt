use Rattle.std.proofs.Common.{ℕ, ◌<◌}
use Rattle.broken_rules.specs.Rules.{Breaks}
use Rattle.broken_rules.proofs.search.broken_with_caller.Given as goal

abbrev pub invariant-loop-number : goal.invariant-loop-number
invariant-loop-number l = (k : ℕ) → k < l.number → Breaks l.kind l.book
    (record { rule = l.rule; first = l.first; second = record { caller = l.caller; number = k } })
    → ⊥
