use Rattle.std.proofs.Common.{◌≡◌, ℕ, ◌<◌, length, slice_index}
use Rattle.search_hints.proofs.next.cut_of.Given as goal

abbrev pub invariant-loop-caller : goal.invariant-loop-caller
invariant-loop-caller l = record {
  long : length l.cut ≡ length l.counts;
  same : (i : ℕ) → i < l.caller → slice_index l.cut i ≡ slice_index l.counts i;
}
