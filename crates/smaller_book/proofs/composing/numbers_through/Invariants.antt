use Rattle.std.proofs.Common.{◌≡◌, ℕ, map}
use Rattle.std.specs.List.{range_with_len}
use Rattle.smaller_book.specs.Part.{numbers_of}
use Rattle.smaller_book.specs.Numbers.{numbers_in}
use Rattle.smaller_book.specs.Numbers.{picked}
use Rattle.smaller_book.proofs.composing.numbers_through.Given as goal

abbrev pub invariant-loop-caller : goal.invariant-loop-caller
invariant-loop-caller l =
    numbers_in l.rows.items ≡ map
    (λ (i : ℕ). picked (numbers_of (numbers_in l.first) i) (numbers_of (numbers_in l.second) i))
    (range_with_len 0 l.caller)
