use Rattle.std.proofs.Common.{◌≡◌, map}
use Rattle.std.specs.List.{range_with_len}
use Rattle.smaller_book.specs.Numbers.{numbers_in}
use Rattle.smaller_book.specs.Keys.{row_without}
use Rattle.refutation_text.specs.Steps.{keys_gone}
use Rattle.refutation_text.proofs.part_steps.places_without.Given as goal

abbrev pub invariant-loop-caller : goal.invariant-loop-caller
invariant-loop-caller l = numbers_in l.rows.items
    ≡ map (row_without l.kind (keys_gone l.these l.keys) l.book) (range_with_len 0 l.caller)
