use Rattle.std.proofs.Common.{◌-◌}
use Rattle.book_base.specs.Rising.{AreViewsWithin}
use Rattle.book_base.proofs.book.Book.views_within_between.Given as goal

abbrev pub invariant-loop-low : goal.invariant-loop-low
invariant-loop-low l = AreViewsWithin l.self l.caller l.view l.low l.high

abbrev pub decreases-loop-low : goal.decreases-loop-low
decreases-loop-low l = l.high - l.low
