use Rattle.std.proofs.Common.{◌≡◌, ◌+◌, ◌-◌, ◌++◌}
use Rattle.std.specs.List.{range_with_len}
use Rattle.smaller_book.proofs.removal.numbers_without.Given as goal

abbrev pub invariant-loop-before : goal.invariant-loop-before
invariant-loop-before l = l.numbers.items ≡ range_with_len 0 l.before

abbrev pub invariant-loop-after : goal.invariant-loop-after
invariant-loop-after l = l.numbers.items
    ≡ range_with_len 0 l.number ++ range_with_len (l.number + 1) (l.after - (l.number + 1))
