use Rattle.std.proofs.Common.{◌≡◌, ◌<◌, Some}
use Rattle.book_base.specs.declared.call.Call.{Call}
use Rattle.book_base.specs.declared.call.Record.{Record}
use Rattle.book_base.specs.Cut.{AreComparable}
use Rattle.book_base.specs.Book.{record_of}
use Rattle.book_base.proofs.book.Book.first_crossing.Given as goal

abbrev pub invariant-loop-caller : goal.invariant-loop-caller
invariant-loop-caller l = (call : Call) (r : Record) → call.caller < l.caller
    → record_of l.self call ≡ Some r → AreComparable l.view r.view
