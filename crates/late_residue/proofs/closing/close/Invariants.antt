use Rattle.std.proofs.Common.{◌≡◌, ℕ, ◌<◌, [], length, Some, slice_get}
use Rattle.late_residue.specs.Description.{Description}
use Rattle.late_residue.specs.Reached.{descriptions_of}
use Rattle.late_residue.specs.Placing.{LeadsOn}
use Rattle.late_residue.specs.LateOnes.{AreAdded}
use Rattle.late_residue.proofs.closing.close.Given as goal

abbrev pub invariant-loop-k : goal.invariant-loop-k
invariant-loop-k g l = record {
  added : AreAdded (g.O.SeqObject.spec l.object) l.calls l.returning l.reply []
      (descriptions_of l.initial.ones.items) (descriptions_of l.initial.left.items)
      (descriptions_of l.ones.items) (descriptions_of l.left.items);
  leads : (j : ℕ) (one : Description) → j < l.k → slice_get (descriptions_of l.ones.items) j ≡ Some one
      → LeadsOn (g.O.SeqObject.spec l.object).next (g.O.Overwriting.writes l.object) l.calls l.returning l.reply
      (descriptions_of l.ones.items) (descriptions_of l.left.items) (length l.calls) one;
}
