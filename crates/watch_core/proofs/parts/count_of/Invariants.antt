use Rattle.std.proofs.Common.{◌≡◌, ◌-◌, ◌^◌, min, take}
use Rattle.watch_core.specs.Parts.{configurations_of}
use Rattle.watch_core.proofs.parts.count_of.Given as goal

abbrev pub invariant-loop-at : goal.invariant-loop-at
invariant-loop-at l = l.count ≡ min (configurations_of (take l.at l.parts.entries)) (2 ^ 64 - 1)
