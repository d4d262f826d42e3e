-- How many of a caller's own calls and rows its views, its seen cuts and its embedded cuts count,
-- and at most how many of another caller's.
use Rattle.std.specs.Prelude.{◌≡◌, ℕ, ◌+◌, ◌<◌, ◌≤◌, List, [], length, slice_index, slice_index_or}
use Rattle.world_core.specs.declared.region.Region.{Region}
use Rattle.world_core.specs.declared.region.Region.TheVariants.{N, M}
use Rattle.world_core.specs.Shape.{Shape}
use Rattle.world_core.specs.Local.{Local, own_count, embedded_in}
use Rattle.world_core.specs.Calls.{AreTogether, local_at}

-- A cut has one count for each caller, none above that caller's own count in a region; and for
-- caller i it has the given count.
pub record IsCutOf (locals : List Local) (region : Region) (i count : ℕ)
    (cut : List ℕ) : Type 0 where
  pub wide : length cut ≡ length locals
  pub within : (j : ℕ) → j < length locals
      → slice_index cut j ≤ own_count (local_at locals j) region
  pub own : slice_index cut i ≡ count

-- View k of a caller counts announced calls alone, k + 1 of them its own.
abbrev pub ViewsCountTheirCall : Type 0
ViewsCountTheirCall =
    (s : Shape) (locals : List Local) (i k : ℕ) → AreTogether s locals → i < s.callers
    → k < length (local_at locals i).views
    → IsCutOf locals N i (k + 1) (slice_index_or (local_at locals i).views k [])

-- Seen cut k of a caller counts published records alone, k + 1 of them its own: of the caller's
-- calls it holds call k as the last.
abbrev pub SeenCutsCountTheirCall : Type 0
SeenCutsCountTheirCall =
    (s : Shape) (locals : List Local) (i k : ℕ) → AreTogether s locals → i < s.callers
    → k < length (local_at locals i).seen
    → IsCutOf locals M i (k + 1) (slice_index_or (local_at locals i).seen k [])

-- The cut that row k of a caller embeds in a region counts counted rows of that region alone, k of
-- them the caller's own.
abbrev pub EmbeddedCutsCountTheirRow : Type 0
EmbeddedCutsCountTheirRow =
    (s : Shape) (locals : List Local) (i k : ℕ) (region : Region) → AreTogether s locals
    → i < s.callers → k < own_count (local_at locals i) region
    → IsCutOf locals region i k (slice_index_or (embedded_in (local_at locals i) region) k [])
