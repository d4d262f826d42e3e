use Rattle.std.proofs.Common.{◌≡◌, length}
use Rattle.frontier_check.proofs.prefix.calls_at.Given as goal

abbrev pub invariant-loop-place : goal.invariant-loop-place
invariant-loop-place l = length l.calls ≡ length l.cut
