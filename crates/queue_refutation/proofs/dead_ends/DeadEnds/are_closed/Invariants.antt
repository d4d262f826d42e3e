use Rattle.std.proofs.Common.{◌≡◌, ℕ, ◌<◌, Some}
use Rattle.std.specs.List.{slice_get}
use Rattle.queue_pairs.specs.declared.standing.PairState.{PairState}
use Rattle.queue_refutation.specs.DeadEnds.{listed, ClosedAt}
use Rattle.queue_refutation.proofs.dead_ends.DeadEnds.are_closed.Given as goal

abbrev pub invariant-loop-place : goal.invariant-loop-place
invariant-loop-place l = (k : ℕ) → k < l.place → (s : PairState)
    → slice_get l.self.standings.now.keys k ≡ Some s
    → ClosedAt l.self.table.now (listed l.self.standings.now.keys) s
