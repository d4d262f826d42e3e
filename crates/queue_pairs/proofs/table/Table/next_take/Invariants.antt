use Rattle.std.proofs.Common.{◌≡◌, ℕ, ◌<◌, ◌≤◌, None}
use Rattle.queue_pairs.specs.Tables.{take_at}
use Rattle.queue_pairs.proofs.table.Table.next_take.Given as goal

abbrev pub invariant-loop-number : goal.invariant-loop-number
invariant-loop-number l = (k : ℕ) → l.from ≤ k → k < l.number → take_at l.self l.caller k ≡ None
