use Rattle.std.proofs.Common.{◌≡◌}
use Rattle.frontier_check.proofs.fresh.enabling_place.Given as goal

abbrev pub invariant-loop-caller : goal.invariant-loop-caller
invariant-loop-caller g l = l.spare.room ≡ l.fn.spare.room
