use Rattle.std.proofs.Common.{◌≡◌, ◌++◌, take}
use Rattle.level_refutations.specs.Closed.{nodes_at}
use Rattle.level_refutations.proofs.nodes.add_all.Given as goal

abbrev pub invariant-loop-k : goal.invariant-loop-k
invariant-loop-k l = l.nodes.items ≡ l.fn.nodes.items ++ nodes_at l.level (take l.k l.cuts)
