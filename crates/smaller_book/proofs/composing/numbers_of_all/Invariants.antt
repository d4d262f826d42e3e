use Rattle.std.proofs.Common.{◌≡◌, ℕ, map}
use Rattle.std.specs.List.{range_with_len}
use Rattle.book_base.specs.Book.{calls_of}
use Rattle.smaller_book.specs.Numbers.{numbers_in}
use Rattle.smaller_book.proofs.composing.numbers_of_all.Given as goal

abbrev pub invariant-loop-caller : goal.invariant-loop-caller
invariant-loop-caller l = numbers_in l.rows.items
    ≡ map (λ (i : ℕ). range_with_len 0 (calls_of l.book i)) (range_with_len 0 l.caller)
