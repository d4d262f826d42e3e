use Rattle.std.proofs.Common.{◌≡◌, length}
use Rattle.frontier_check.proofs.remaining.view_after.Given as goal

abbrev pub invariant-loop-caller : goal.invariant-loop-caller
invariant-loop-caller l = length l.after ≡ length l.view
