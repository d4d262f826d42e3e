use Rattle.std.proofs.Common.{◌≡◌, ℕ, length, map, take, get_or}
use Rattle.row_gather.specs.Words.{greatest_in}
use Rattle.row_gather.proofs.held.held_calls.Given as goal

abbrev pub invariant-loop-records : goal.invariant-loop-records
invariant-loop-records l = record {
  wide : length l.held ≡ l.n;
  counts : (i : ℕ) → get_or l.held i 0
      ≡ greatest_in (map (λ records. records.items) (take l.records-index l.lists)) i;
}
