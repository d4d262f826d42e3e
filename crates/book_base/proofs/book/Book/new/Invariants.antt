use Rattle.std.proofs.Common.{◌≡◌, replicate}
use Rattle.book_base.specs.BookLayout.{pages}
use Rattle.book_base.proofs.PageLemmas.{empty}
use Rattle.book_base.proofs.book.Book.new.Given as goal

abbrev pub invariant-loop : goal.invariant-loop
invariant-loop l = pages l.rows.items ≡ replicate l.counter empty
