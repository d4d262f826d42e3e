use Rattle.std.proofs.Common.{◌≡◌, ◌-◌, ◌≤◌, ◌⊎◌, get_or, set}
use Rattle.book_base.specs.BookAt.{book_at}
use Rattle.book_base.specs.Order.{HasLegalOrder}
use Rattle.seq_objects.specs.Objects.{kind_spec}
use Rattle.smaller_book.specs.Earliest.{IsIllegalCut}
use Rattle.smaller_book.proofs.cuts.least_count.Given as goal

abbrev pub invariant-loop-low : goal.invariant-loop-low
invariant-loop-low l =
    (l.low ≤ l.high) × (l.high ≤ get_or l.cut l.caller 0)
    × IsIllegalCut (kind_spec l.kind) l.book (set l.cut l.caller l.high)
    × ((l.low ≡ 0) ⊎ HasLegalOrder (kind_spec l.kind)
    (book_at (set l.cut l.caller (l.low - 1)) l.book))

abbrev pub decreases-loop-low : goal.decreases-loop-low
decreases-loop-low l = l.high - l.low
