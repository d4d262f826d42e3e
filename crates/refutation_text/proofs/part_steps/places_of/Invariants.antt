use Rattle.std.proofs.Common.{◌≡◌, map}
use Rattle.std.specs.List.{range_with_len}
use Rattle.smaller_book.specs.Numbers.{numbers_in}
use Rattle.refutation_text.specs.Steps.{row_listed}
use Rattle.refutation_text.proofs.part_steps.places_of.Given as goal

abbrev pub invariant-loop-caller : goal.invariant-loop-caller
invariant-loop-caller l = numbers_in l.rows.items
    ≡ map (row_listed (numbers_in l.left.numbers.items) l.calls l.left.book)
    (range_with_len 0 l.caller)
