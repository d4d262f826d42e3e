use Rattle.std.proofs.Common.{◌≡◌, ℕ, not, filter}
use Rattle.std.specs.List.{range_with_len}
use Rattle.smaller_book.specs.Keys.{key_of_call, is_among}
use Rattle.refutation_text.specs.Steps.{keys_gone}
use Rattle.refutation_text.proofs.part_steps.row_of_places.Given as goal

abbrev pub invariant-loop-number : goal.invariant-loop-number
invariant-loop-number l =
    l.row.items ≡ filter (λ (number : ℕ). not (is_among (keys_gone l.these l.keys)
    (key_of_call l.kind l.book (record { caller = l.caller; number = number }))))
    (range_with_len 0 l.number)
