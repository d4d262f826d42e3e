use Rattle.std.proofs.Common.{◌≡◌, take, not, ◌==◌}
use Rattle.std.specs.List.{filter}
use Rattle.late_residue.specs.declared.reached.Placed.{Placed}
use Rattle.late_residue.proofs.reached.others.Given as goal

abbrev pub invariant-loop-place : goal.invariant-loop-place
invariant-loop-place l = l.others.items
    ≡ filter (λ (place : Placed). not (place.call == l.call)) (take l.place-index l.placed)
