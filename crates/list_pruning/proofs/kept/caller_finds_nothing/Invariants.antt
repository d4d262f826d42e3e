use Rattle.std.proofs.Common.{ℕ, ◌<◌, ◌≤◌, get_or}
use Rattle.legal_orders.specs.Calls.{FindsNothing}
use Rattle.list_pruning.proofs.kept.caller_finds_nothing.Given as goal

abbrev pub invariant-loop-number : goal.invariant-loop-number
invariant-loop-number g l =
    (n : ℕ) → get_or l.cut l.caller 0 ≤ n → n < l.number → FindsNothing
    (g.R.Reader.reading l.reader) l.book (record { caller = l.caller; number = n }) → ⊥
