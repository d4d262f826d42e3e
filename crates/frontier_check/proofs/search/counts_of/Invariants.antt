use Rattle.std.proofs.Common.{◌≡◌, take}
use Rattle.frontier_check.proofs.search.counts_of.Given as goal

abbrev pub invariant-loop-count : goal.invariant-loop-count
invariant-loop-count l = l.counts.items ≡ take l.count-index l.count-items
