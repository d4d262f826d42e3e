use Rattle.std.proofs.Common.{◌≡◌, ℕ, ◌<◌, Some, slice_get}
use Rattle.legal_prefixes.specs.declared.prefix.LegalPrefix.{LegalPrefix}
use Rattle.legal_prefixes.proofs.layer.is_listed.Given as goal

abbrev pub invariant-loop-prefix : goal.invariant-loop-prefix
invariant-loop-prefix l = (k : ℕ) (prefix : LegalPrefix) → k < l.prefix-index
    → slice_get l.prefixes k ≡ Some prefix
    → (prefix.cut ≡ l.cut) × (prefix.words.items ≡ l.words) → ⊥
