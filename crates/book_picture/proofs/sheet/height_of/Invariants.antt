use Rattle.std.proofs.Common.{◌≡◌, ℕ, ◌<◌, ◌≤◌, Some, slice_get}
use Rattle.book_picture.specs.declared.row.Row.{Row}
use Rattle.book_picture.specs.Rows.{lane_top}
use Rattle.book_picture.proofs.sheet.height_of.Given as goal

abbrev pub invariant-loop-row : goal.invariant-loop-row
invariant-loop-row l = (k : ℕ) (row : Row) → k < l.row-index → slice_get l.rows k ≡ Some row
    → lane_top row.top l.callers ≤ l.height
