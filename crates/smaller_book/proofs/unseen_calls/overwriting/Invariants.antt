use Rattle.std.proofs.Common.{◌≡◌, ◌≤◌}
use Rattle.book_base.specs.declared.call.Call.{Call}
use Rattle.smaller_book.specs.Settings.{Overwrites}
use Rattle.smaller_book.proofs.unseen_calls.overwriting.Given as goal

abbrev pub invariant-loop-number : goal.invariant-loop-number
invariant-loop-number l = (other : Call) → other.caller ≡ l.caller
    → Overwrites l.kind l.book l.fn.setting other → l.number ≤ other.number
