use Rattle.std.proofs.Common.{◌≡◌, length}
use Rattle.frontier_check.specs.Prefix.{IsBookCapacity, IsPut}
use Rattle.frontier_check.specs.Standing.{AreMarks}
use Rattle.frontier_check.proofs.fresh.put_fresh.Given as goal

abbrev pub invariant-loop : goal.invariant-loop
invariant-loop g l = record {
  put : IsPut (g.S.SeqObject.spec l.object) l.book l.prefix;
  room : l.prefix.here.room ≡ l.fn.prefix.here.room;
  spare : IsBookCapacity (g.S.SeqObject.spec l.object) l.spare.room;
  counts : length l.guess.counts ≡ length l.book;
  taken : length l.guess.taken ≡ length l.book;
  marks : AreMarks (g.S.SeqObject.spec l.object) l.book l.prefix.places.items 0 l.marks.items;
}
