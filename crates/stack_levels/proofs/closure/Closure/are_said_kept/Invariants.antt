use Rattle.std.proofs.Common.{ℕ, ◌<◌, get_or}
use Rattle.stack_levels.specs.Tables.{layers_of, IsSaidKept}
use Rattle.stack_levels.proofs.closure.Closure.are_said_kept.Given as goal

abbrev pub invariant-loop-k : goal.invariant-loop-k
invariant-loop-k g l = (j : ℕ) → j < l.k
    → IsSaidKept (layers_of l.self.table.now.levels.items) (get_or l.parents j 0)
