use Rattle.std.proofs.Common.{ℕ, ◌<◌}
use Rattle.seq_objects.specs.Objects.{kind_next}
use Rattle.smaller_book.specs.ReadOnly.{IsReadOnly}
use Rattle.smaller_book.specs.Minimal.{IsNeeded}
use Rattle.smaller_book.proofs.removal.without_one_of.Given as goal

abbrev pub invariant-loop-number : goal.invariant-loop-number
invariant-loop-number l =
    (k : ℕ) → k < l.number
    → IsReadOnly (kind_next l.kind) l.book (record { caller = l.caller; number = k })
    → IsNeeded l.kind l.book (record { caller = l.caller; number = k })
