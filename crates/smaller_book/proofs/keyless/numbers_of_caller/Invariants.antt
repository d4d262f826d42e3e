use Rattle.std.proofs.Common.{◌≡◌, ℕ, not, filter}
use Rattle.std.specs.List.{range_with_len}
use Rattle.smaller_book.specs.Keys.{key_of_call, is_among, keys_from_to}
use Rattle.smaller_book.proofs.keyless.numbers_of_caller.Given as goal

abbrev pub invariant-loop-number : goal.invariant-loop-number
invariant-loop-number l =
    l.numbers.items ≡ filter (λ (number : ℕ). not (is_among (keys_from_to l.first l.last)
    (key_of_call l.kind l.book (record { caller = l.caller; number = number }))))
    (range_with_len 0 l.number)
