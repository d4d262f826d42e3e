use Rattle.std.proofs.Common.{ℕ, ◌<◌, get_or}
use Rattle.level_refutations.specs.Closed.{AreNodesAt}
use Rattle.level_refutations.proofs.table.StoredTable.has_one.Given as goal

abbrev pub invariant-loop-k : goal.invariant-loop-k
invariant-loop-k l = (j : ℕ) → j < l.k
    → AreNodesAt l.self.cuts.items l.self.nodes.items (get_or l.levels j 0) l.counts → ⊥
