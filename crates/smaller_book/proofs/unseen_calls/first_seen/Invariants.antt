use Rattle.std.proofs.Common.{◌<◌}
use Rattle.book_base.specs.declared.call.Call.{Call}
use Rattle.book_base.specs.Book.{IsCall}
use Rattle.smaller_book.specs.Numbers.{numbers_in}
use Rattle.smaller_book.specs.Settings.{StaysOrMayGo}
use Rattle.smaller_book.proofs.unseen_calls.first_seen.Given as goal

abbrev pub invariant-loop-caller : goal.invariant-loop-caller
invariant-loop-caller l = (call : Call) → IsCall l.book call → call.caller < l.caller
    → StaysOrMayGo l.kind l.book (numbers_in l.numbers) call
