use Rattle.std.proofs.Common.{◌≡◌, ℕ, ◌<◌, Some}
use Rattle.std.specs.List.{All}
use Rattle.smaller_book.specs.Keys.{key_of_call}
use Rattle.smaller_book.specs.Minimal.{IsKeyNeeded}
use Rattle.smaller_book.proofs.keyless.without_key_of_caller.Given as goal

abbrev pub invariant-loop-number : goal.invariant-loop-number
invariant-loop-number l = All (IsKeyNeeded l.kind l.book) l.needed.items
    × ((number key : ℕ) → number < l.number
    → key_of_call l.kind l.book (record { caller = l.caller; number = number }) ≡ Some key
    → IsKeyNeeded l.kind l.book key)
