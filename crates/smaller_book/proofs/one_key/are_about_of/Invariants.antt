use Rattle.std.proofs.Common.{◌≡◌, ℕ, ◌<◌, Some}
use Rattle.smaller_book.specs.Keys.{key_of_call}
use Rattle.smaller_book.proofs.one_key.are_about_of.Given as goal

abbrev pub invariant-loop-number : goal.invariant-loop-number
invariant-loop-number l = (number : ℕ) → number < l.number
    → key_of_call l.kind l.book (record { caller = l.caller; number = number }) ≡ Some l.key
