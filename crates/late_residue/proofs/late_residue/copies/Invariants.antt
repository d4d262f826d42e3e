use Rattle.std.proofs.Common.{◌≡◌, take}
use Rattle.late_residue.specs.Reached.{descriptions_of}
use Rattle.late_residue.proofs.late_residue.copies.Given as goal

abbrev pub invariant-loop-one : goal.invariant-loop-one
invariant-loop-one l = descriptions_of l.copies.items ≡ descriptions_of (take l.one-index l.ones)
