use Rattle.smaller_book.specs.Numbers.{AreNumbersBelow}
use Rattle.smaller_book.proofs.kept.numbers_of_caller.Given as goal

abbrev pub invariant-loop-number : goal.invariant-loop-number
invariant-loop-number l = AreNumbersBelow l.number l.numbers.items
