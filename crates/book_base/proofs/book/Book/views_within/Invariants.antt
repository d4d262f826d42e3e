use Rattle.std.proofs.Common.{◌≤◌}
use Rattle.book_base.specs.Rising.{AreViewsWithin}
use Rattle.book_base.proofs.book.Book.views_within.Given as goal

abbrev pub invariant-loop-high : goal.invariant-loop-high
invariant-loop-high l = record {
  within : AreViewsWithin l.self l.caller l.view 0 l.high;
  distance : 1 ≤ l.distance;
}

abbrev pub decreases-loop-high : goal.decreases-loop-high
decreases-loop-high l = l.high
