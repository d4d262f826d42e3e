use Rattle.std.proofs.Common.{◌≡◌, ℕ, ◌<◌, length, get_or}
use Rattle.client_scripts.specs.Plans.{operations_of}
use Rattle.client_scripts.proofs.writer.announced.Given as goal

abbrev pub invariant-loop-caller : goal.invariant-loop-caller
invariant-loop-caller l = record {
  wide : length l.counts ≡ length l.script.operations;
  counts : (i : ℕ) → i < l.caller → get_or l.counts i 0 ≡ length (operations_of l.script i);
}
