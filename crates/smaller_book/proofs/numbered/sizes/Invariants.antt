use Rattle.std.proofs.Common.{◌≡◌, ℕ, ◌<◌, length, get_or}
use Rattle.smaller_book.specs.Part.{numbers_of}
use Rattle.smaller_book.specs.Numbers.{numbers_in}
use Rattle.smaller_book.proofs.numbered.sizes.Given as goal

abbrev pub invariant-loop-caller : goal.invariant-loop-caller
invariant-loop-caller l = (length l.sizes ≡ length l.book)
    × ((j : ℕ) → j < l.caller → get_or l.sizes j 0 ≡ length (numbers_of (numbers_in l.numbers) j))
