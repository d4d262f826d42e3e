use Rattle.std.proofs.Common.{◌≡◌, ℕ, ◌+◌, length, get_or}
use Rattle.book_picture.specs.Rows.{AreRising}
use Rattle.book_picture.proofs.columns.column_edges.Given as goal

abbrev pub invariant-loop : goal.invariant-loop
invariant-loop l = record {
  count : length l.edges.items ≡ l.counter + 1;
  rising : AreRising l.edges.items;
  last : (k : ℕ) → k + 1 ≡ length l.edges.items → get_or l.edges.items k 0 ≡ l.edge;
}
