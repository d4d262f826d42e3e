use Rattle.std.proofs.Common.{ℕ}
use Rattle.std.specs.List.{slice_get}
use Rattle.queue_pairs.specs.NextEntries.{last_after, IsLeastOf}
use Rattle.queue_pairs.proofs.table.Table.find_limit.Given as goal

abbrev pub invariant-loop-k : goal.invariant-loop-k
invariant-loop-k l =
    IsLeastOf (λ (k : ℕ). last_after l.found (slice_get l.self.finds.items k)) l.k l.least
