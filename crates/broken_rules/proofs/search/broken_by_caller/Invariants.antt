use Rattle.std.proofs.Common.{ℕ, ◌<◌}
use Rattle.book_base.specs.declared.call.Call.{Call}
use Rattle.broken_rules.specs.Rules.{Breaks}
use Rattle.broken_rules.proofs.search.broken_by_caller.Given as goal

abbrev pub invariant-loop-number : goal.invariant-loop-number
invariant-loop-number l =
    (k : ℕ) → k < l.number → (second : Call) → Breaks l.kind l.book
    (record { rule = l.rule; first = record { caller = l.caller; number = k }; second = second })
    → ⊥
