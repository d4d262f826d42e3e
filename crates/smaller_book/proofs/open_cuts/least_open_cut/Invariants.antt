use Rattle.std.proofs.Common.{ℕ, ◌<◌, get_or}
use Rattle.seq_objects.specs.Objects.{kind_spec}
use Rattle.smaller_book.specs.Earliest.{IsIllegalCut, IsLegalBelow}
use Rattle.smaller_book.proofs.open_cuts.least_open_cut.Given as goal

abbrev pub invariant-loop-caller : goal.invariant-loop-caller
invariant-loop-caller l =
    IsIllegalCut (kind_spec l.kind) l.book l.least
    × ((j : ℕ) → j < l.caller → IsLegalBelow (kind_spec l.kind) l.book l.least j
    (get_or l.least j 0))
