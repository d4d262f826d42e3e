use Rattle.legal_orders.specs.Container.{Reading}
use Rattle.queue_pairs.specs.Tables.{IsTable}
use Rattle.refutations.specs.Counting.{IsOfSort, HasEachTo}
use Rattle.refutations.proofs.counts.calls_of.Given as goal

abbrev pub invariant-loop-caller : goal.invariant-loop-caller
invariant-loop-caller l = (reading : Reading) → IsTable reading l.book l.table
    → HasEachTo (IsOfSort reading l.book l.values l.sort) l.caller 0 l.calls.items
