use Rattle.std.proofs.Common.{◌≡◌, ◌≢◌, ◌<◌, ℕ, List, [], ◌∷◌, Some, slice_get}
use Rattle.streams.specs.Stream.{StreamEvent}
use Rattle.streams.specs.StreamOrder.{StreamPlace, IsAmong}
use Rattle.late_residue.specs.declared.open_call.OpenCall.{OpenCall}
use Rattle.late_residue.specs.Reached.{description_of}
use Rattle.late_residue.specs.Meaning.{IsWider}
use Rattle.late_residue.specs.Placing.{AreOf, IsWritten, IsSound, IsReachedBy}
use Rattle.late_residue.specs.LateOnes.{AreOpen}
use Rattle.late_residue.proofs.widening.hide.Given as goal

abbrev pub invariant-loop-call : goal.invariant-loop-call
invariant-loop-call g l = record {
  wider : IsWider (description_of l.initial.one) (description_of l.one);
  optional : (place : StreamPlace) → IsAmong (description_of l.initial.one).optional place
      → IsAmong (description_of l.one).optional place;
  hidden : (j : ℕ) (call : OpenCall) → j < l.call-index → slice_get l.calls j ≡ Some call
      → (place : StreamPlace) → IsWritten (g.O.SeqObject.spec l.object).next
      (g.O.Overwriting.writes l.object) (call ∷ []) place
      → (place.call ≢ l.last.call) → (AreOf (description_of l.initial.one).placed place.call → ⊥)
      → IsAmong (description_of l.one).optional place;
  sound : (stream : List StreamEvent) → AreOpen stream l.calls
      → IsSound (IsReachedBy (g.O.SeqObject.spec l.object) stream l.last) l.calls
      (description_of l.initial.one)
      → IsSound (IsReachedBy (g.O.SeqObject.spec l.object) stream l.last) l.calls
      (description_of l.one);
}
