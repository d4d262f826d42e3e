use Rattle.std.proofs.Common.{◌≡◌, ℕ, ◌<◌, false, Some, slice_get}
use Rattle.late_residue.specs.declared.open_call.OpenCall.{OpenCall}
use Rattle.watch_core.proofs.pending.pending.Given as goal

abbrev pub invariant-loop-at : goal.invariant-loop-at
invariant-loop-at l = (j : ℕ) (one : OpenCall) → j < l.at → slice_get l.calls j ≡ Some one
    → one.process ≡ l.process → one.is_lost ≡ false → ⊥
