use Rattle.std.proofs.Common.{ℕ, ◌<◌}
use Rattle.refutation_text.specs.Grammar.{IsValueAt}
use Rattle.refutation_text.proofs.fields.are_values.Given as goal

abbrev pub invariant-loop-k : goal.invariant-loop-k
invariant-loop-k l = (n : ℕ) → n < l.k → IsValueAt l.values n
