use Rattle.std.proofs.Common.{◌≡◌, IfNone, None}
use Rattle.frontier_check.specs.Search.{IsWalk, places_of, weight}
use Rattle.frontier_check.proofs.search.Search.go_on.Given as goal

abbrev pub invariant-steps : goal.invariant-steps
invariant-steps g l = record {
  room : l.spare.room ≡ l.fn.spare.room;
  walk : IsWalk l.self.book.now l.self.prefix.now (g.S.SeqObject.spec l.self.object.now) l.walk
      (places_of l.walk.choices.items);
  unlimited : IfNone l.fn.steps (l.left ≡ None);
}

abbrev pub decreases-steps : goal.decreases-steps
decreases-steps g l = weight l.walk
