use Rattle.legal_orders.specs.Container.{Reading}
use Rattle.queue_pairs.specs.Tables.{IsTable}
use Rattle.refutations.specs.Counting.{IsOfSort, HasEachTo}
use Rattle.refutations.proofs.counts.add_calls.Given as goal

abbrev pub invariant-loop-number : goal.invariant-loop-number
invariant-loop-number l = (reading : Reading) → IsTable reading l.book l.table
    → HasEachTo (IsOfSort reading l.book l.values l.sort) l.caller 0 l.fn.calls.items
    → HasEachTo (IsOfSort reading l.book l.values l.sort) l.caller l.number l.calls.items
