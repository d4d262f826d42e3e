use Rattle.std.proofs.Common.{◌≡◌}
use Rattle.frontier_check.specs.Prefix.{IsPut}
use Rattle.frontier_check.specs.Standing.{AreMarks}
use Rattle.frontier_check.proofs.prefix.Prefix.put_marked.Given as goal

abbrev pub invariant-loop-place : goal.invariant-loop-place
invariant-loop-place g l = record {
  put : IsPut (g.S.SeqObject.spec l.object) l.book l.self;
  room : l.self.here.room ≡ l.fn.self.here.room;
  marks : AreMarks (g.S.SeqObject.spec l.object) l.book l.self.places.items 0 l.marks.items;
}
