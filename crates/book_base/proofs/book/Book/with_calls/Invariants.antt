use Rattle.std.proofs.Common.{◌≡◌, take}
use Rattle.book_base.specs.Book.{unanswered_book}
use Rattle.book_base.specs.BookLayout.{pages}
use Rattle.book_base.proofs.book.Book.with_calls.Given as goal

abbrev pub invariant-loop-i : goal.invariant-loop-i
invariant-loop-i l = pages l.rows.items ≡ unanswered_book (take l.i l.calls)
