use Rattle.std.proofs.Common.{◌≡◌, ◌<◌, ℕ, Some, slice_get}
use Rattle.late_residue.specs.declared.open_call.OpenCall.{OpenCall}
use Rattle.late_residue.specs.Reached.{description_of}
use Rattle.late_residue.specs.Placing.{IsUnseenBy}
use Rattle.late_residue.proofs.closing.is_unseen.Given as goal

abbrev pub invariant-loop-other : goal.invariant-loop-other
invariant-loop-other g l = record {
  unseen : (j : ℕ) (other : OpenCall) → j < l.other-index → slice_get l.calls j ≡ Some other
      → IsUnseenBy (g.O.SeqObject.spec l.object).next (g.O.Overwriting.writes l.object) l.returning.call
      (description_of l.one) l.call other;
}
