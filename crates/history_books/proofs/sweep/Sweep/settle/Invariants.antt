use Rattle.std.proofs.Common.{◌≡◌, length}
use Rattle.book_base.specs.Book.{announced}
use Rattle.history_books.specs.Sweep.{IsSwept, NoneIsDueBelow}
use Rattle.history_books.proofs.sweep.Sweep.settle.Given as goal

-- the callers so far have no call that is due
abbrev pub invariant-loop-caller : goal.invariant-loop-caller
invariant-loop-caller l = record {
  swept : IsSwept l.calls l.self.book l.self.names.items l.self.pending.items;
  names : l.self.names.items ≡ l.fn.self.names.items;
  callers : length l.self.book ≡ length l.fn.self.book;
  end : l.caller-end ≡ length l.fn.self.book;
  view : l.view ≡ announced l.self.book;
  none : NoneIsDueBelow l.caller l.calls (length l.self.names.items) l.self.pending.items;
}
