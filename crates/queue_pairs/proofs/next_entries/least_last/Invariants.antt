use Rattle.std.proofs.Common.{ℕ, None, get_or}
use Rattle.queue_pairs.specs.NextEntries.{last_of, IsLeastOf}
use Rattle.queue_pairs.proofs.next_entries.least_last.Given as goal

abbrev pub invariant-loop-i : goal.invariant-loop-i
invariant-loop-i l = IsLeastOf (λ (i : ℕ). last_of (get_or l.calls i None)) l.i l.least
