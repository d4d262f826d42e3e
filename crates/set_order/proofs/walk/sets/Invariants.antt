use Rattle.std.proofs.Common.{◌≡◌, take}
use Rattle.set_order.specs.Search.{order_of}
use Rattle.set_order.proofs.walk.sets.Given as goal

abbrev pub invariant-loop-frame : goal.invariant-loop-frame
invariant-loop-frame l = l.order.items ≡ order_of (take l.frame-index l.frames)
