use Rattle.book_base.proofs.ViewLemmas.{IsHeldTo}
use Rattle.book_base.proofs.book.Book.held_calls.Given as goal

abbrev pub invariant-loop-other : goal.invariant-loop-other
invariant-loop-other l = IsHeldTo l.self l.cut l.caller l.other l.held
