use Rattle.std.proofs.Common.{◌≡◌, take}
use Rattle.book_base.specs.BookLayout.{pages}
use Rattle.book_base.proofs.book.Book.copy.Given as goal

abbrev pub invariant-loop-row : goal.invariant-loop-row
invariant-loop-row l = pages l.rows.items ≡ pages (take l.row-index l.row-items)
