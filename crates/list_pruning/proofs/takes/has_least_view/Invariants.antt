use Rattle.std.proofs.Common.{◌≡◌, ℕ, ◌<◌, ◌≤◌, Some, get_or}
use Rattle.book_base.specs.declared.call.Record.{Record}
use Rattle.book_base.specs.Book.{record_of}
use Rattle.book_base.specs.Cut.{IsWithin}
use Rattle.legal_orders.specs.Calls.{TakesOut}
use Rattle.list_pruning.proofs.takes.has_least_view.Given as goal

abbrev pub invariant-loop-caller : goal.invariant-loop-caller
invariant-loop-caller g l =
    (i n : ℕ) → i < l.caller → get_or l.cut i 0 ≤ n → n < get_or l.view i 0
    → TakesOut (g.R.Reader.reading l.reader) l.book (record { caller = i; number = n }) l.value
    → (s : Record) → record_of l.book (record { caller = i; number = n }) ≡ Some s
    → IsWithin l.view s.view
