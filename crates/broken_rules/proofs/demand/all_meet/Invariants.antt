use Rattle.std.proofs.Common.{◌<◌}
use Rattle.book_base.specs.declared.call.Call.{Call}
use Rattle.book_base.specs.Book.{IsCall}
use Rattle.broken_rules.specs.Demands.{Meets}
use Rattle.broken_rules.proofs.demand.all_meet.Given as goal

abbrev pub invariant-loop-caller : goal.invariant-loop-caller
invariant-loop-caller l = (call : Call) → call.caller < l.caller → IsCall l.book call
    → Meets l.kind l.book l.demand l.first l.second call
