use Rattle.book_base.specs.BookLayout.{pages}
use Rattle.book_base.proofs.ViewLemmas.{IsPartTo}
use Rattle.book_base.proofs.book.Book.at.Given as goal

abbrev pub invariant-loop-caller : goal.invariant-loop-caller
invariant-loop-caller l = IsPartTo l.self l.cut (pages l.rows.items) l.caller
