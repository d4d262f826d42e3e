use Rattle.std.proofs.Common.{◌≡◌, ℕ, ◌+◌, ◌-◌, ◌*◌, ◌<◌, ◌≤◌, length, Some, slice_get}
use Rattle.book_picture.specs.declared.row.Row.{Row}
use Rattle.book_picture.specs.Rows.{capped, row_height, IsRow}
use Rattle.book_picture.proofs.rows.folded.Given as goal

abbrev pub invariant-folding : goal.invariant-folding
invariant-folding l = record {
  place : l.first ≡ length l.rows.items * 24;
  below : l.row_top ≡ capped (l.top + length l.rows.items * row_height (length l.lanes));
  within : l.first ≤ l.places;
  more : 0 < length l.rows.items → l.first < l.places;
  each : (k : ℕ) (row : Row) → slice_get l.rows.items k ≡ Some row
      → IsRow l.places (length l.lanes) l.top k row;
}

abbrev pub decreases-folding : goal.decreases-folding
decreases-folding l = l.places - l.first
