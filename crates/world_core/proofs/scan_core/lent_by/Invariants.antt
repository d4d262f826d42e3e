-- No caller with a number below i has moved twice: the mover of the two collects is that among the
-- callers from i on.
use Rattle.std.proofs.Common.{◌≡◌, drop}
use Rattle.world_core.specs.Scan.{mover, mover_from}
use Rattle.world_core.proofs.scan_core.lent_by.Given as goal

abbrev pub invariant-loop-i : goal.invariant-loop-i
invariant-loop-i l = mover_from l.i (drop l.i l.first) (drop l.i l.latest) ≡ mover l.first l.latest
