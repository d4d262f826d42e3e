use Rattle.std.proofs.Common.{ℕ, ◌<◌, get_or, length, take}
use Rattle.stack_levels.specs.Tables.{nodes_of}
use Rattle.stack_levels.proofs.closure.Closure.has_all_at.Given as goal

abbrev pub invariant-loop-k : goal.invariant-loop-k
invariant-loop-k g l = (j : ℕ) → j < l.k
    → nodes_of l.self.on.now.book.now l.self.table.now.cuts.keys l.self.table.now.nodes.keys
    (get_or l.parents j 0)
    (take (length l.self.on.now.book.now) l.counts)
