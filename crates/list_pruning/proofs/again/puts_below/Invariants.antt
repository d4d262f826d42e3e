use Rattle.std.proofs.Common.{◌≡◌, ℕ, ◌<◌, ◌≤◌, get_or}
use Rattle.search_hints.specs.Marks.{IsMarked}
use Rattle.legal_orders.specs.Calls.{PutsIn}
use Rattle.list_pruning.proofs.again.puts_below.Given as goal

abbrev pub invariant-loop-number : goal.invariant-loop-number
invariant-loop-number g l =
    (n : ℕ) → get_or l.cut l.caller 0 ≤ n → n < l.number
    → PutsIn (g.R.Reader.reading l.reader) l.book (record { caller = l.caller; number = n }) l.value
    → IsMarked l.marks l.caller × (n ≡ get_or l.cut l.caller 0)
