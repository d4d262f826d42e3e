use Rattle.std.proofs.Common.{ℕ, ◌<◌, ◌≤◌, get_or}
use Rattle.legal_orders.specs.Calls.{FindsNothing}
use Rattle.list_pruning.proofs.kept.is_found_empty.Given as goal

abbrev pub invariant-loop-caller : goal.invariant-loop-caller
invariant-loop-caller g l =
    (i number : ℕ) → i < l.caller → get_or l.cut i 0 ≤ number
    → FindsNothing (g.R.Reader.reading l.reader) l.book (record { caller = i; number = number }) → ⊥
