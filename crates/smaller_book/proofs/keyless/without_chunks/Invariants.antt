use Rattle.std.specs.Prelude.{IfSome}
use Rattle.smaller_book.specs.Numbers.{numbers_in}
use Rattle.smaller_book.specs.Minimal.{IsSmaller}
use Rattle.smaller_book.proofs.keyless.without_chunks.Given as goal

abbrev pub invariant-loop-chunk : goal.invariant-loop-chunk
invariant-loop-chunk l = IfSome l.fewest
    (λ smaller. IsSmaller l.kind l.book (numbers_in smaller.numbers.items) smaller.book)
