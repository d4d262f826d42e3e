use Rattle.smaller_book.specs.Numbers.{numbers_in}
use Rattle.smaller_book.specs.Part.{size_of}
use Rattle.smaller_book.specs.Minimal.{IsShrunk}
use Rattle.smaller_book.proofs.shrinking.shrink.Given as goal

abbrev pub invariant-shrinking : goal.invariant-shrinking
invariant-shrinking l = IsShrunk l.kind l.book (numbers_in l.smaller.numbers.items) l.smaller.book

abbrev pub decreases-shrinking : goal.decreases-shrinking
decreases-shrinking l = size_of l.smaller.book
