use Rattle.std.proofs.Common.{◌≡◌, ℕ, ◌<◌, length, get_or}
use Rattle.client_scripts.proofs.text.counts.Given as goal

abbrev pub invariant-loop-caller : goal.invariant-loop-caller
invariant-loop-caller l = record {
  wide : length l.counts ≡ l.workload.callers;
  counts : (i : ℕ) → i < l.caller → get_or l.counts i 0 ≡ l.workload.calls;
}
