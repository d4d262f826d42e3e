use Rattle.std.proofs.Common.{◌≡◌, ℕ, ◌<◌, Some, slice_get}
use Rattle.book_base.specs.Next.{HoldsAnswered}
use Rattle.legal_prefixes.specs.declared.prefix.LegalPrefix.{LegalPrefix}
use Rattle.legal_prefixes.proofs.layer.is_one_whole.Given as goal

abbrev pub invariant-loop-prefix : goal.invariant-loop-prefix
invariant-loop-prefix l = (k : ℕ) (prefix : LegalPrefix) → k < l.prefix-index
    → slice_get l.layer k ≡ Some prefix → HoldsAnswered l.book prefix.cut → ⊥
