use Rattle.std.proofs.Common.{◌≡◌, map}
use Rattle.std.specs.List.{range_with_len}
use Rattle.smaller_book.specs.Numbers.{numbers_in}
use Rattle.smaller_book.specs.Keys.{keys_from_to, row_without}
use Rattle.smaller_book.proofs.keyless.numbers_without.Given as goal

abbrev pub invariant-loop-caller : goal.invariant-loop-caller
invariant-loop-caller l = numbers_in l.rows.items
    ≡ map (row_without l.kind (keys_from_to l.first l.last) l.book) (range_with_len 0 l.caller)
