use Rattle.std.proofs.Common.{◌<◌}
use Rattle.book_base.specs.declared.call.Call.{Call}
use Rattle.smaller_book.specs.Part.{IsNamed}
use Rattle.smaller_book.specs.Numbers.{numbers_in}
use Rattle.smaller_book.specs.Settings.{CannotTell}
use Rattle.smaller_book.proofs.unseen_calls.none_tells.Given as goal

abbrev pub invariant-loop-caller : goal.invariant-loop-caller
invariant-loop-caller l = (call : Call) → call.caller < l.caller
    → IsNamed (numbers_in l.numbers) call → CannotTell l.kind l.book l.setting l.item call
