use Rattle.std.proofs.Common.{◌≡◌, take}
use Rattle.set_order.specs.Search.{next_operations}
use Rattle.set_order.proofs.search.SetSearch.operations.Given as goal

abbrev pub invariant-loop-caller : goal.invariant-loop-caller
invariant-loop-caller g l =
    l.operations.items ≡ next_operations l.self.book.now l.counts (take l.caller-index l.callers)
