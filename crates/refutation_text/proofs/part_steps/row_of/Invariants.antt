use Rattle.std.proofs.Common.{◌≡◌, ℕ, filter}
use Rattle.std.specs.List.{range_with_len}
use Rattle.smaller_book.specs.Part.{original}
use Rattle.smaller_book.specs.Numbers.{numbers_in}
use Rattle.refutation_text.specs.Steps.{is_listed}
use Rattle.refutation_text.proofs.part_steps.row_of.Given as goal

abbrev pub invariant-loop-place : goal.invariant-loop-place
invariant-loop-place l =
    l.row.items ≡ filter (λ (number : ℕ). is_listed l.calls
    (original (numbers_in l.left.numbers.items) (record { caller = l.caller; number = number })))
    (range_with_len 0 l.place)
