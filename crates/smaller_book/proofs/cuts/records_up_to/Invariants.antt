use Rattle.std.proofs.Common.{◌≡◌, length}
use Rattle.book_base.specs.Cut.{IsWithin}
use Rattle.book_base.specs.Book.{answered}
use Rattle.smaller_book.proofs.cuts.records_up_to.Given as goal

abbrev pub invariant-loop-caller : goal.invariant-loop-caller
invariant-loop-caller l = (length l.cut ≡ length l.book) × IsWithin l.cut (answered l.book)
