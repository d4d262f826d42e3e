use Rattle.std.proofs.Common.{◌≡◌, ℕ, ◌<◌, List, length, take, Some, slice_get}
use Rattle.stack_levels.specs.declared.table.NodeKey.{NodeKey}
use Rattle.stack_levels.specs.Levels.{IsClosedAt}
use Rattle.stack_levels.specs.Tables.{layers_of, nodes_of}
use Rattle.stack_levels.proofs.closure.Closure.are_closed.Given as goal

abbrev pub invariant-loop-place : goal.invariant-loop-place
invariant-loop-place g l = (k : ℕ) → k < l.place → (key : NodeKey)
    → slice_get l.self.table.now.nodes.keys k ≡ Some key
    → (counts : List ℕ) → slice_get l.self.table.now.cuts.keys key.cut ≡ Some counts
    → IsClosedAt (g.R.Reader.reading l.self.on.now.reader.now) l.self.on.now.book.now
    (layers_of l.self.table.now.levels.items)
    (nodes_of l.self.on.now.book.now l.self.table.now.cuts.keys l.self.table.now.nodes.keys)
    key.level (take (length l.self.on.now.book.now) counts)
