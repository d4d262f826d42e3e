use Rattle.std.proofs.Common.{◌≡◌}
use Rattle.frontier_check.proofs.takes.Takes.list_caller.Given as goal

abbrev pub invariant-loop-number : goal.invariant-loop-number
invariant-loop-number g l = l.spare.room ≡ l.fn.spare.room
