use Rattle.std.proofs.Common.{◌≡◌}
use Rattle.frontier_check.proofs.fresh.enables_recorded_reply.Given as goal

abbrev pub invariant-loop-other : goal.invariant-loop-other
invariant-loop-other g l = l.spare.room ≡ l.fn.spare.room
