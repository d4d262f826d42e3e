use Rattle.std.proofs.Common.{◌≡◌, ℕ, ◌+◌, ◌≤◌, length, Some, slice_get}
use Rattle.residue_laws.specs.Residue.{Configuration}
use Rattle.late_residue.specs.Description.{Description}
use Rattle.late_residue.specs.Reached.{Has, descriptions_of}
use Rattle.late_residue.specs.Meaning.{Means, AreMeant}
use Rattle.late_residue.proofs.closing.pruned.Given as goal

abbrev pub invariant-loop-k : goal.invariant-loop-k
invariant-loop-k l = record {
  from : (one : Description) → Has (descriptions_of l.pruned.items) one
      → Has (descriptions_of l.ones) one;
  means : (j : ℕ) (one : Description) → length l.ones ≤ j + l.k
      → slice_get (descriptions_of l.ones) j ≡ Some one → (at : Configuration) → Means one at
      → AreMeant (descriptions_of l.pruned.items) at;
}
