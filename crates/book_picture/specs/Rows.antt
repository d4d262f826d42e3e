-- Rows: how the places of a sketch are folded into them, and whether an interval has a part in one.
use Rattle.std.specs.Prelude.{◌≡◌, ℕ, ◌+◌, ◌-◌, ◌*◌, ◌^◌, ◌<◌, ◌≤◌, min, Bool, nat_lt, nat_le, List, length, Option, Some, None, slice_get, slice_index, if◌then◌else◌}
use Rattle.sketch.specs.declared.interval.Interval.{Interval}
use Rattle.book_picture.specs.declared.row.Row.{Row}
use Rattle.book_picture.specs.declared.row.IntervalPart.{IntervalPart}
use Rattle.book_picture.specs.declared.row.TheConstants.{ROW_PLACES}
use Rattle.book_picture.specs.declared.columns.TheConstants.{LEAST}
use Rattle.book_picture.specs.declared.rows.TheConstants.{LANE, BETWEEN}

-- A number of pixels, or the greatest number of a word where the number of pixels is greater.
abbrev pub capped : ℕ → ℕ
capped pixels = min pixels (2 ^ 64 - 1)

-- The height at which the lane of a caller begins in a row that begins at the height `top`.
abbrev pub lane_top : ℕ → ℕ → ℕ
lane_top top caller = capped (capped (caller * LANE) + top)

-- How far the next row begins below a row with a lane for each of this many callers.
abbrev pub row_height : ℕ → ℕ
row_height callers = capped (capped (callers * LANE) + BETWEEN)

-- How many places the row of number `k`, counted from 0, has, where a sketch has `places` places.
abbrev pub places_in : ℕ → ℕ → ℕ
places_in places k = min ROW_PLACES (places - k * ROW_PLACES)

-- The edges of a row's columns: each is at least `LEAST` pixels right of the one before it.
abbrev pub AreRising : List ℕ → Type 0
AreRising edges = (k : ℕ) → k + 1 < length edges
    → capped (slice_index edges k + LEAST) ≤ slice_index edges (k + 1)

-- The row of number `k`, counted from 0, has its share of the places of a sketch, in order, with an
-- edge before each place and one after the last. It begins `k` row heights below `top`.
pub record IsRow (places callers top k : ℕ) (row : Row) : Type 0 where
  pub first : row.first ≡ k * ROW_PLACES
  pub below : row.top ≡ capped (top + k * row_height callers)
  pub edges : length row.edges.items ≡ places_in places k + 1
  pub rising : AreRising row.edges.items

-- The rows have all places of a sketch, in order, `places` of them, and are no more than the places
-- need, but at least one. The first begins at the height `top`, and each has a lane for each caller
-- above the next one.
pub record AreFolded (places callers top : ℕ) (rows : List Row) : Type 0 where
  pub some : 1 ≤ length rows
  pub all : places ≤ length rows * ROW_PLACES
  pub needed : 1 < length rows → length rows * ROW_PLACES < places + ROW_PLACES
  pub each : (k : ℕ) (row : Row) → slice_get rows k ≡ Some row
      → IsRow places callers top k row

-- At most 24 places, as many as a dozen calls have, stay on one row.
abbrev pub ADozenStayOnOneRow : Type 0
ADozenStayOnOneRow = (places callers top : ℕ) (rows : List Row) → places ≤ 12 * 2
    → AreFolded places callers top rows → length rows ≡ 1

-- Whether an interval has a part in a row that begins with the place `first` and has `places`
-- places.
abbrev pub has_part : ℕ → ℕ → Interval → Bool
has_part first places interval = nat_lt (interval.begin - first) (min (interval.end - first) places)

-- The part of an interval in a row that begins with the place `first` and has `places` places: the
-- edges at which the part begins and ends, counted in the row, and whether the interval itself
-- begins and ends at these edges; `None` where the interval has no part in the row.
abbrev pub part_in : ℕ → ℕ → Interval → Option IntervalPart
part_in first places interval = if has_part first places interval then Some (record {
  begin = interval.begin - first;
  end = min (interval.end - first) places;
  begins = nat_le first interval.begin;
  ends = nat_le (interval.end - first) places;
}) else None
