use Rattle.std.specs.Prelude.{IfSome}
use Rattle.smaller_book.specs.Numbers.{numbers_in}
use Rattle.smaller_book.specs.Minimal.{IsSmaller}
use Rattle.smaller_book.proofs.read_only_calls.without_singles_of.Given as goal

abbrev pub invariant-loop-tried : goal.invariant-loop-tried
invariant-loop-tried l = IfSome l.fewest
    (λ smaller. IsSmaller l.kind l.book (numbers_in smaller.numbers.items) smaller.book)
