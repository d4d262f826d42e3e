use Rattle.std.proofs.Common.{◌≡◌, ◌≢◌, ℕ}
use Rattle.book_base.specs.Book.{answers_of}
use Rattle.smaller_book.specs.Part.{IsPart}
use Rattle.smaller_book.specs.Numbers.{numbers_in}
use Rattle.smaller_book.proofs.numbered.put_answers.Given as goal

abbrev pub invariant-loop-number : goal.invariant-loop-number
invariant-loop-number l =
    IsPart l.book (numbers_in l.numbers) l.part
    × (answers_of l.part l.caller ≡ l.number-index)
    × ((j : ℕ) → j ≢ l.caller → answers_of l.part j ≡ answers_of l.initial.part j)
