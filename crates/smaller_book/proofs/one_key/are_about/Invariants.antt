use Rattle.std.proofs.Common.{◌≡◌, ◌<◌, Some}
use Rattle.book_base.specs.declared.call.Call.{Call}
use Rattle.book_base.specs.Book.{IsCall}
use Rattle.smaller_book.specs.Keys.{key_of_call}
use Rattle.smaller_book.proofs.one_key.are_about.Given as goal

abbrev pub invariant-loop-caller : goal.invariant-loop-caller
invariant-loop-caller l = (call : Call) → IsCall l.book call → call.caller < l.caller
    → key_of_call l.kind l.book call ≡ Some l.key
