use Rattle.std.proofs.Common.{◌≡◌, ℕ, ◌<◌, Some, slice_get}
use Rattle.level_refutations.specs.declared.node.Node.{Node}
use Rattle.level_refutations.specs.Closed.{IsClosedAt, nodes_of, table_of}
use Rattle.level_refutations.proofs.table.StoredTable.first_open.Given as goal

abbrev pub invariant-loop-k : goal.invariant-loop-k
invariant-loop-k l = (j : ℕ) (node : Node) → j < l.k
    → slice_get (nodes_of l.entries) j ≡ Some node
    → IsClosedAt l.book (table_of l.book l.entries) node
