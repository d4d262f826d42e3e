use Rattle.std.proofs.Common.{◌≡◌, ℕ, ◌<◌, Some, slice_get}
use Rattle.queue_pairs.specs.declared.next_entries.TimedPair.{TimedPair}
use Rattle.queue_pairs.specs.NextEntries.{CanReplace}
use Rattle.pair_refutations.proofs.closed.some_replaces.Given as goal

abbrev pub invariant-loop-other : goal.invariant-loop-other
invariant-loop-other l = (k : ℕ) (other : TimedPair) → k < l.other-index
    → slice_get l.good k ≡ Some other → CanReplace other l.pair → ⊥
