use Rattle.std.proofs.Common.{◌≡◌, take}
use Rattle.told_models.specs.Walking.{order_of}
use Rattle.told_models.proofs.walk.places.Given as goal

abbrev pub invariant-loop-frame : goal.invariant-loop-frame
invariant-loop-frame l = l.order.items ≡ order_of (take l.frame-index l.frames)
