-- What the views, the seen cuts and the embedded cuts of a caller come from: the cuts that its
-- scans gave.
use Rattle.std.specs.Prelude.{◌≡◌, ℕ, ◌<◌, List, [], length, Some, slice_get, slice_index_or}
use Rattle.book_base.specs.Cut.{IsWithin}
use Rattle.world_core.specs.declared.region.Region.{Region}
use Rattle.world_core.specs.declared.region.Region.TheVariants.{N, M}
use Rattle.world_core.specs.Shape.{Shape}
use Rattle.world_core.specs.Local.{Local, Given, own_count, embedded_in}
use Rattle.world_core.specs.Calls.{AreTogether, local_at}

-- A list of cuts that scans gave has `cut` among those that scans of `region` gave.
pub record IsGivenIn (cuts : List Given) (region : Region) (cut : List ℕ) : Type 0 where
  pub place : ℕ
  pub since : ℕ
  pub is : slice_get cuts place ≡ Some (record { region = region; cut = cut; since = since })

-- Each view of a caller is a cut that a scan of N by this caller gave.
abbrev pub ViewsAreGiven : Type 0
ViewsAreGiven =
    (s : Shape) (locals : List Local) (i k : ℕ) → AreTogether s locals → i < s.callers
    → k < length (local_at locals i).views
    → IsGivenIn (local_at locals i).cuts N (slice_index_or (local_at locals i).views k [])

-- Each seen cut of a caller is a cut that a scan of M by this caller gave.
abbrev pub SeenCutsAreGiven : Type 0
SeenCutsAreGiven =
    (s : Shape) (locals : List Local) (i k : ℕ) → AreTogether s locals → i < s.callers
    → k < length (local_at locals i).seen
    → IsGivenIn (local_at locals i).cuts M (slice_index_or (local_at locals i).seen k [])

-- The cut that a caller's counted row embeds in a region is a cut that a scan of this region by
-- this caller gave.
abbrev pub EmbeddedCutsAreGiven : Type 0
EmbeddedCutsAreGiven =
    (s : Shape) (locals : List Local) (i k : ℕ) (region : Region) → AreTogether s locals
    → i < s.callers → k < own_count (local_at locals i) region
    → IsGivenIn (local_at locals i).cuts region
    (slice_index_or (embedded_in (local_at locals i) region) k [])

-- A later view of a caller contains its earlier views.
abbrev pub ViewsRise : Type 0
ViewsRise =
    (s : Shape) (locals : List Local) (i k m : ℕ) → AreTogether s locals → i < s.callers → k < m
    → m < length (local_at locals i).views
    → IsWithin (slice_index_or (local_at locals i).views k [])
    (slice_index_or (local_at locals i).views m [])

-- A later seen cut of a caller contains its earlier seen cuts.
abbrev pub SeenCutsRise : Type 0
SeenCutsRise =
    (s : Shape) (locals : List Local) (i k m : ℕ) → AreTogether s locals → i < s.callers → k < m
    → m < length (local_at locals i).seen
    → IsWithin (slice_index_or (local_at locals i).seen k [])
    (slice_index_or (local_at locals i).seen m [])
