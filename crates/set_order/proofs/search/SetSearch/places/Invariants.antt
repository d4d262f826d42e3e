use Rattle.std.proofs.Common.{take}
use Rattle.set_order.specs.Search.{ArePlaced}
use Rattle.set_order.proofs.search.SetSearch.places.Given as goal

abbrev pub invariant-loop-at : goal.invariant-loop-at
invariant-loop-at g l = ArePlaced l.self.book.now l.counts (take l.at l.callers)
    (take l.at l.replies.words) l.places.items
