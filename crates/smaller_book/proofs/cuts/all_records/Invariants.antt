use Rattle.std.proofs.Common.{◌≡◌, ℕ, ◌<◌, length, get_or}
use Rattle.book_base.specs.Book.{answers_of}
use Rattle.smaller_book.proofs.cuts.all_records.Given as goal

abbrev pub invariant-loop-caller : goal.invariant-loop-caller
invariant-loop-caller l = (length l.cut ≡ length l.book)
    × ((j : ℕ) → j < l.caller → get_or l.cut j 0 ≡ answers_of l.book j)
