use Rattle.std.proofs.Common.{◌≡◌, ℕ, ◌<◌, Some}
use Rattle.book_base.specs.declared.call.Record.{Record}
use Rattle.book_base.specs.Cut.{IsWithin}
use Rattle.book_base.specs.Book.{record_of}
use Rattle.book_base.specs.Next.{next_call}
use Rattle.frontier_check.proofs.prefix.leaves_open.Given as goal

abbrev pub invariant-loop-caller : goal.invariant-loop-caller
invariant-loop-caller l = (i : ℕ) (r : Record) → i < l.caller
    → record_of l.book (next_call l.cut i) ≡ Some r → IsWithin l.cut r.view
