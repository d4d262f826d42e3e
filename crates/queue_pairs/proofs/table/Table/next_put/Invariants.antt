use Rattle.std.proofs.Common.{◌≡◌, ℕ, ◌<◌, ◌≤◌, None}
use Rattle.queue_pairs.specs.Tables.{put_at}
use Rattle.queue_pairs.proofs.table.Table.next_put.Given as goal

abbrev pub invariant-loop-number : goal.invariant-loop-number
invariant-loop-number l = (k : ℕ) → l.from ≤ k → k < l.number → put_at l.self l.caller k ≡ None
