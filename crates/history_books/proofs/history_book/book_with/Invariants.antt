use Rattle.std.proofs.Common.{◌≡◌, length}
use Rattle.history_books.specs.Sweep.{IsSwept}
use Rattle.history_books.proofs.history_book.book_with.Given as goal

-- the calls so far are swept
abbrev pub invariant-loop-place : goal.invariant-loop-place
invariant-loop-place l = record {
  swept : IsSwept l.calls l.sweep.book l.sweep.names.items l.sweep.pending.items;
  named : length l.sweep.names.items ≡ l.place;
  callers : length l.sweep.book ≡ l.callers;
}
