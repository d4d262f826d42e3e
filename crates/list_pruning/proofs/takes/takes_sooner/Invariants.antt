use Rattle.std.proofs.Common.{◌≡◌, ℕ, ◌<◌, ◌≤◌, Some}
use Rattle.book_base.specs.declared.call.Record.{Record}
use Rattle.book_base.specs.Book.{record_of}
use Rattle.book_base.specs.Cut.{IsWithin}
use Rattle.legal_orders.specs.Calls.{TakesOut}
use Rattle.list_pruning.proofs.takes.takes_sooner.Given as goal

abbrev pub invariant-loop-number : goal.invariant-loop-number
invariant-loop-number g l =
    (n : ℕ) → l.from ≤ n → n < l.number
    → TakesOut (g.R.Reader.reading l.reader) l.book
    (record { caller = l.caller; number = n }) l.value
    → (s : Record) → record_of l.book (record { caller = l.caller; number = n }) ≡ Some s
    → IsWithin l.view s.view
