use Rattle.std.proofs.Common.{◌+◌, ◌≤◌}
use Rattle.book_picture.specs.Rows.{capped}
use Rattle.book_picture.proofs.columns.next_edge.Given as goal

abbrev pub invariant-loop-lane : goal.invariant-loop-lane
invariant-loop-lane l = capped (l.last + 28) ≤ l.edge
