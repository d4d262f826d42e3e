use Rattle.std.proofs.Common.{◌<◌}
use Rattle.book_base.specs.declared.call.Call.{Call}
use Rattle.broken_rules.specs.Rules.{Breaks}
use Rattle.broken_rules.proofs.search.broken_with.Given as goal

abbrev pub invariant-loop-caller : goal.invariant-loop-caller
invariant-loop-caller l = (second : Call) → second.caller < l.caller
    → Breaks l.kind l.book (record { rule = l.rule; first = l.first; second = second }) → ⊥
