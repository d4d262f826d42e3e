use Rattle.std.proofs.Common.{ℕ, ◌<◌}
use Rattle.smaller_book.specs.Numbers.{numbers_in}
use Rattle.smaller_book.specs.Settings.{StaysOrMayGo}
use Rattle.smaller_book.proofs.unseen_calls.first_seen_of.Given as goal

abbrev pub invariant-loop-number : goal.invariant-loop-number
invariant-loop-number l = (number : ℕ) → number < l.number
    → StaysOrMayGo l.kind l.book (numbers_in l.numbers)
    (record { caller = l.caller; number = number })
