use Rattle.std.proofs.Common.{◌≡◌, ◌++◌, drop}
use Rattle.set_order.specs.Search.{picked}
use Rattle.set_order.proofs.walk.part_of.Given as goal

abbrev pub invariant-loop-caller : goal.invariant-loop-caller
invariant-loop-caller l =
    l.part.items ++ picked l.digits (drop l.caller-index l.callers) ≡ picked l.number l.callers
