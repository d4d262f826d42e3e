use Rattle.std.proofs.Common.{◌≡◌, ℕ, ◌<◌, Some, slice_get}
use Rattle.late_residue.specs.Description.{Description}
use Rattle.late_residue.specs.Reached.{description_of, descriptions_of}
use Rattle.late_residue.specs.Meaning.{Serves}
use Rattle.late_residue.proofs.closing.serve.Given as goal

abbrev pub invariant-loop-k : goal.invariant-loop-k
invariant-loop-k l = (j : ℕ) (other : Description) → j < l.k
    → slice_get (descriptions_of l.ones) j ≡ Some other → Serves other (description_of l.one) → ⊥
