use Rattle.std.proofs.Common.{◌≡◌, take}
use Rattle.level_refutations.specs.Closed.{nodes_of}
use Rattle.level_refutations.proofs.nodes.nodes_of.Given as goal

abbrev pub invariant-loop-k : goal.invariant-loop-k
invariant-loop-k l = l.nodes.items ≡ nodes_of (take l.k l.entries)
