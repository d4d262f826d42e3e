use Rattle.std.proofs.Common.{◌≡◌, ℕ, ◌<◌, ◌≤◌, get_or}
use Rattle.search_hints.specs.Marks.{IsMarked}
use Rattle.legal_orders.specs.Calls.{PutsIn}
use Rattle.list_pruning.proofs.again.puts_are_next_or_later.Given as goal

abbrev pub invariant-loop-caller : goal.invariant-loop-caller
invariant-loop-caller g l =
    (i n : ℕ) → i < l.caller → get_or l.cut i 0 ≤ n → n < get_or l.view i 0
    → PutsIn (g.R.Reader.reading l.reader) l.book (record { caller = i; number = n }) l.value
    → IsMarked l.marks i × (n ≡ get_or l.cut i 0)
