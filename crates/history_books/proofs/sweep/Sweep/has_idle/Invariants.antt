use Rattle.std.proofs.Common.{◌≡◌, ℕ, ◌<◌, Some, None, slice_get}
use Rattle.history_books.proofs.sweep.Sweep.has_idle.Given as goal

-- none of the callers so far is without a pending call
abbrev pub invariant-loop-pending : goal.invariant-loop-pending
invariant-loop-pending l = (k : ℕ) → k < l.pending-index
    → slice_get l.pending-items k ≡ Some None → ⊥
