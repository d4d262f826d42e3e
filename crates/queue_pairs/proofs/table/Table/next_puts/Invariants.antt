use Rattle.std.proofs.Common.{◌≡◌, ℕ, ◌<◌, None, get_or, length}
use Rattle.book_base.specs.declared.TheConstants.{MAX_CALLERS}
use Rattle.queue_pairs.specs.Tables.{put_at, IsFirstFrom}
use Rattle.queue_pairs.proofs.table.Table.next_puts.Given as goal

abbrev pub invariant-loop-caller : goal.invariant-loop-caller
invariant-loop-caller l = record {
  size : length l.puts ≡ MAX_CALLERS;
  first : (k : ℕ) → k < l.caller
      → IsFirstFrom (λ n. put_at l.self k n) (get_or l.from k 0) (get_or l.puts k None);
}
