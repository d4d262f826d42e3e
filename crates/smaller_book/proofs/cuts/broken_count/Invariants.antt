use Rattle.std.proofs.Common.{◌-◌, ◌≤◌, get_or, set}
use Rattle.seq_objects.specs.Objects.{kind_spec}
use Rattle.smaller_book.specs.Earliest.{IsIllegalCut}
use Rattle.smaller_book.proofs.cuts.broken_count.Given as goal

abbrev pub invariant-loop-low : goal.invariant-loop-low
invariant-loop-low l =
    (l.high ≤ get_or l.cut l.caller 0)
    × IsIllegalCut (kind_spec l.kind) l.book (set l.cut l.caller l.high)

abbrev pub decreases-loop-low : goal.decreases-loop-low
decreases-loop-low l = l.high - l.low
