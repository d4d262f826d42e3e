use Rattle.std.proofs.Common.{◌≡◌, List, length, ap, arith}
use Rattle.book_base.specs.declared.call.Call.{Call}
use Rattle.history_books.proofs.Ending.{book_from_swept}
use Rattle.history_books.proofs.history_book.book_with.Goals as goal

pub returns-clause-book : goal.returns-clause-book
returns-clause-book c =
    let settled = c.in_ok-settle-2.ensures in
    let all : length c.settle-2.new.self.names.items ≡ length c.args.calls.now = omega (
      arith,
      ap (λ (names : List Call). length names) settled.names,
      c.loop-place.invariant.named,
      c.loop-place-test.false,
      c.loop-place.auto.place-end,
    ) in
    book_from_swept c.args.calls.now c.settle-2.new.self.book c.settle-2.new.self.names.items
    c.settle-2.new.self.pending.items settled.valid settled.swept settled.none all
