use Rattle.std.proofs.Common.{◌-◌}
use Rattle.seq_objects.specs.Objects.{kind_spec}
use Rattle.smaller_book.specs.Earliest.{IsIllegalCut}
use Rattle.smaller_book.proofs.cuts.first_illegal.Given as goal

abbrev pub invariant-loop-low : goal.invariant-loop-low
invariant-loop-low l = IsIllegalCut (kind_spec l.kind) l.book l.cut

abbrev pub decreases-loop-low : goal.decreases-loop-low
decreases-loop-low l = l.high - l.low
