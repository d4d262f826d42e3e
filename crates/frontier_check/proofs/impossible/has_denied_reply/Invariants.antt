use Rattle.std.proofs.Common.{◌≤◌, ◌<◌, true, slice_index}
use Rattle.book_base.specs.declared.call.Call.{Call}
use Rattle.book_base.specs.Book.{IsAnswered}
use Rattle.frontier_check.specs.Replies.{IsTested}
use Rattle.frontier_check.proofs.impossible.has_denied_reply.Given as goal

abbrev pub invariant-loop-caller : goal.invariant-loop-caller
invariant-loop-caller g l = (call : Call) → IsAnswered l.book call → call.caller < l.caller
    → slice_index l.cut call.caller ≤ call.number
    → IsTested (λ (op, reply) answer. goal.F-post g l.test op reply answer) l.book call true
