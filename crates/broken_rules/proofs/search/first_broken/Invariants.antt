use Rattle.std.proofs.Common.{◌≡◌, ℕ, ◌<◌, Some, slice_get}
use Rattle.broken_rules.specs.declared.rule.BrokenRule.{BrokenRule}
use Rattle.broken_rules.specs.Rules.{Breaks}
use Rattle.broken_rules.proofs.search.first_broken.Given as goal

abbrev pub invariant-loop-rule : goal.invariant-loop-rule
invariant-loop-rule l = (k : ℕ) (broken : BrokenRule) → k < l.rule-index
    → slice_get l.rules k ≡ Some broken.rule → Breaks l.kind l.book broken → ⊥
