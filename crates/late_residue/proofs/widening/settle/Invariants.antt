use Rattle.std.proofs.Common.{List, ◌<◌, length}
use Rattle.book_base.specs.declared.TheConstants.{MAX_ROOM}
use Rattle.streams.specs.Stream.{StreamEvent}
use Rattle.streams.specs.StreamOrder.{StreamPlace, IsAmong}
use Rattle.residue_laws.specs.Residue.{IsInResidue}
use Rattle.late_residue.specs.Reached.{description_of}
use Rattle.late_residue.specs.Meaning.{IsWider}
use Rattle.late_residue.specs.Placing.{IsSound}
use Rattle.late_residue.specs.LateOnes.{AreOpen}
use Rattle.late_residue.proofs.widening.settle.Given as goal

abbrev pub invariant-loop-call : goal.invariant-loop-call
invariant-loop-call g l = record {
  short : length l.one.list.items < MAX_ROOM;
  wider : IsWider (description_of l.initial.one) (description_of l.one);
  optional : (place : StreamPlace) → IsAmong (description_of l.initial.one).optional place
      → IsAmong (description_of l.one).optional place;
  sound : (stream : List StreamEvent) → AreOpen stream l.calls
      → IsSound (IsInResidue (g.O.SeqObject.spec l.object) stream) l.calls
      (description_of l.initial.one)
      → IsSound (IsInResidue (g.O.SeqObject.spec l.object) stream) l.calls (description_of l.one);
}
