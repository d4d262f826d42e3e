use Rattle.std.proofs.Common.{◌≡◌, [], Some, slice_get}
use Rattle.late_residue.specs.Description.{Description}
use Rattle.late_residue.specs.Reached.{descriptions_of}
use Rattle.late_residue.specs.Placing.{LeadsOn}
use Rattle.late_residue.specs.LateOnes.{AreAdded}
use Rattle.late_residue.proofs.closing.expand.Given as goal

abbrev pub invariant-loop-call : goal.invariant-loop-call
invariant-loop-call g l = record {
  added : AreAdded (g.O.SeqObject.spec l.object) l.calls l.returning l.reply []
      (descriptions_of l.initial.ones.items) (descriptions_of l.initial.left.items)
      (descriptions_of l.ones.items) (descriptions_of l.left.items);
  leads : (one : Description) → slice_get (descriptions_of l.initial.ones.items) l.k ≡ Some one
      → LeadsOn (g.O.SeqObject.spec l.object).next (g.O.Overwriting.writes l.object) l.calls l.returning l.reply
      (descriptions_of l.ones.items) (descriptions_of l.left.items) l.call-index one;
}
