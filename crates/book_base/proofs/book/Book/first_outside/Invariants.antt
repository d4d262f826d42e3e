use Rattle.std.proofs.Common.{ℕ, ◌<◌, ◌≤◌, get_or}
use Rattle.book_base.specs.Book.{calls_of}
use Rattle.book_base.proofs.book.Book.first_outside.Given as goal

abbrev pub invariant-loop-j : goal.invariant-loop-j
invariant-loop-j l = (k : ℕ) → k < l.j → get_or l.view k 0 ≤ calls_of l.self k
