use Rattle.std.proofs.Common.{◌-◌, get_or}
use Rattle.book_base.specs.Cut.{IsWithin}
use Rattle.seq_objects.specs.Objects.{kind_spec}
use Rattle.smaller_book.specs.Earliest.{IsIllegalCut, IsLegalBelow}
use Rattle.smaller_book.proofs.open_cuts.least_open_of.Given as goal

abbrev pub invariant-loop-low : goal.invariant-loop-low
invariant-loop-low l =
    IsWithin l.least l.fn.cut × IsIllegalCut (kind_spec l.kind) l.book l.least
    × IsLegalBelow (kind_spec l.kind) l.book l.least l.caller l.low

abbrev pub decreases-loop-low : goal.decreases-loop-low
decreases-loop-low l = get_or l.least l.caller 0 - l.low
