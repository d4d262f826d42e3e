use Rattle.std.proofs.Common.{◌≡◌, ℕ, ◌<◌, Some}
use Rattle.std.specs.List.{All}
use Rattle.book_base.specs.declared.call.Call.{Call}
use Rattle.book_base.specs.Book.{IsCall}
use Rattle.smaller_book.specs.Keys.{key_of_call}
use Rattle.smaller_book.specs.Minimal.{IsKeyNeeded}
use Rattle.smaller_book.proofs.keyless.without_one_key.Given as goal

abbrev pub invariant-loop-caller : goal.invariant-loop-caller
invariant-loop-caller l = All (IsKeyNeeded l.kind l.book) l.needed.items
    × ((call : Call) (key : ℕ) → call.caller < l.caller → IsCall l.book call
    → key_of_call l.kind l.book call ≡ Some key → IsKeyNeeded l.kind l.book key)
