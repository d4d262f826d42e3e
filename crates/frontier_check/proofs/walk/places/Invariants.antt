use Rattle.std.proofs.Common.{◌≡◌, take}
use Rattle.frontier_check.specs.Search.{order_of}
use Rattle.frontier_check.proofs.walk.places.Given as goal

abbrev pub invariant-loop-level : goal.invariant-loop-level
invariant-loop-level l = l.order.items ≡ order_of (take l.level-index l.levels)
