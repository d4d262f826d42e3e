use Rattle.smaller_book.specs.Numbers.{numbers_in}
use Rattle.smaller_book.proofs.KeptNumbers.{RowsAreNumbers}
use Rattle.smaller_book.proofs.kept.numbers_kept.Given as goal

abbrev pub invariant-loop-caller : goal.invariant-loop-caller
invariant-loop-caller l = RowsAreNumbers l.book l.caller (numbers_in l.rows.items)
