use Rattle.std.proofs.Common.{◌<◌}
use Rattle.book_base.specs.declared.call.Call.{Call}
use Rattle.book_base.specs.Cut.{Holds}
use Rattle.book_base.specs.Book.{IsAnswered}
use Rattle.frontier_check.proofs.fresh.holds_answered.Given as goal

abbrev pub invariant-loop-caller : goal.invariant-loop-caller
invariant-loop-caller l = (call : Call) → call.caller < l.caller → IsAnswered l.book call
    → Holds l.cut call
