use Rattle.std.proofs.Common.{◌≡◌, map}
use Rattle.std.specs.List.{range_with_len}
use Rattle.smaller_book.specs.Numbers.{numbers_in}
use Rattle.smaller_book.specs.Minimal.{row_but}
use Rattle.smaller_book.proofs.removal.all_numbers_but.Given as goal

abbrev pub invariant-loop-caller : goal.invariant-loop-caller
invariant-loop-caller l =
    numbers_in l.rows.items ≡ map (row_but l.book l.call) (range_with_len 0 l.caller)
