use Rattle.std.proofs.Common.{◌≡◌, ℕ, ◌<◌, IsTrue, Some, slice_get}
use Rattle.stack_levels.specs.declared.table.Level.{Level}
use Rattle.stack_levels.specs.Levels.{IsKeptLayer}
use Rattle.stack_levels.specs.Tables.{layer_of, layers_of}
use Rattle.stack_levels.proofs.closure.Closure.levels_are_kept.Given as goal

abbrev pub invariant-loop-k : goal.invariant-loop-k
invariant-loop-k g l = (j : ℕ) → j < l.k → (level : Level)
    → slice_get l.self.table.now.levels.items j ≡ Some level → IsTrue level.top.kept
    → IsKeptLayer (g.R.Reader.reading l.self.on.now.reader.now) l.self.on.now.book.now
    (layers_of l.self.table.now.levels.items) (layer_of level)
