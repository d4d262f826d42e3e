use Rattle.std.proofs.Common.{◌≡◌}
use Rattle.book_base.specs.declared.TheConstants.{MAX_CALLERS}
use Rattle.set_order.specs.Search.{IsWalk, weight}
use Rattle.set_order.proofs.search.SetSearch.go_on.Given as goal

abbrev pub invariant-steps : goal.invariant-steps
invariant-steps g l = record {
  spare : l.spare.room ≡ l.fn.spare.room;
  replies : l.replies.room ≡ MAX_CALLERS;
  walk : IsWalk (g.O.SetObject.init l.self.object.now)
      (g.O.SetObject.served l.self.object.now) l.self.book.now l.walk;
}

abbrev pub decreases-steps : goal.decreases-steps
decreases-steps g l = weight l.walk
