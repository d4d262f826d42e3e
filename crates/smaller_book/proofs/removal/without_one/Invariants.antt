use Rattle.std.proofs.Common.{◌<◌, ◌≤◌}
use Rattle.book_base.specs.declared.call.Call.{Call}
use Rattle.seq_objects.specs.Objects.{kind_next}
use Rattle.smaller_book.specs.ReadOnly.{IsReadOnly}
use Rattle.smaller_book.specs.Minimal.{IsNeeded}
use Rattle.smaller_book.proofs.removal.without_one.Given as goal

abbrev pub invariant-loop-caller : goal.invariant-loop-caller
invariant-loop-caller l =
    (call : Call) → l.from ≤ call.caller → call.caller < l.caller
    → IsReadOnly (kind_next l.kind) l.book call → IsNeeded l.kind l.book call
