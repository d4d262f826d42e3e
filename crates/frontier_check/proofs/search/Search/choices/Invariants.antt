use Rattle.std.proofs.Common.{◌≡◌, ◌≤◌, length}
use Rattle.frontier_check.specs.Search.{AreChosen, places_of}
use Rattle.frontier_check.proofs.search.Search.choices.Given as goal

abbrev pub invariant-loop-caller : goal.invariant-loop-caller
invariant-loop-caller g l = record {
  room : l.spare.room ≡ l.fn.spare.room;
  chosen : AreChosen l.self.book.now (g.S.SeqObject.spec l.self.object.now).next l.counts
      l.here.words l.marks l.caller (places_of l.choices.items);
  few : length l.choices.items ≤ l.caller;
}
