use Rattle.std.proofs.Common.{◌≡◌, ◌*◌, ◌≤◌, sum, take}
use Rattle.book_base.specs.Book.{announced}
use Rattle.smaller_book.proofs.judging.calls_of_all.Given as goal

abbrev pub invariant-loop-caller : goal.invariant-loop-caller
invariant-loop-caller l = record {
  counted : l.total ≡ sum (take l.caller (announced l.book));
  most : l.total ≤ l.caller * 256;
}
