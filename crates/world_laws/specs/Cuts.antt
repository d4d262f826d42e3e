-- What holds of the cuts that scans give, borrowed cuts included (Afek and others 1993).
use Rattle.std.specs.Prelude.{◌≡◌, ℕ, ◌+◌, ◌<◌, ◌≤◌, List, [], ◌++◌, length, Some, slice_get, slice_index, slice_index_or}
use Rattle.book_base.specs.Cut.{IsWithin, AreComparable}
use Rattle.world_core.specs.declared.region.Region.{Region}
use Rattle.world_core.specs.Shape.{Shape}
use Rattle.world_core.specs.Local.{Local, Given, Looked, own_count, embedded_in}
use Rattle.world_core.specs.World.{Step, local_of, IsRun, end_of}
use Rattle.world_core.specs.Snapshot.{counts_in}
use Rattle.world_core.specs.Calls.{AreTogether, local_at}

-- At some moment of the run the counts of the region were exactly this cut.
abbrev pub WereCounts : Shape → List Step → Region → List ℕ → Type 0
WereCounts s steps region cut = (early later : List Step) × (steps ≡ early ++ later)
    × (counts_in s region (end_of s early) ≡ cut)

-- The cut that a scan gave was the counts of its region at one moment.
abbrev pub CutsWereCounts : Type 0
CutsWereCounts =
    (s : Shape) (steps : List Step) (i p : ℕ) (given : Given) → IsRun s steps → i < s.callers
    → slice_get (local_of (end_of s steps) i).cuts p ≡ Some given
    → WereCounts s steps given.region given.cut

-- The cut that a counted row embeds was the counts of its region at one moment.
abbrev pub EmbeddedCutsWereCounts : Type 0
EmbeddedCutsWereCounts =
    (s : Shape) (steps : List Step) (i k : ℕ) (region : Region) → IsRun s steps → i < s.callers
    → k < own_count (local_of (end_of s steps) i) region → WereCounts s steps region
    (slice_index_or (embedded_in (local_of (end_of s steps) i) region) k [])

-- At a moment of a run that ends in these locals the callers' own counts in a region were exactly
-- this cut.
pub record WereOwnCounts (s : Shape) (locals : List Local) (region : Region)
    (cut : List ℕ) : Type 0 where
  pub early : List Step
  pub later : List Step
  pub run : IsRun s (early ++ later)
  pub ends : (end_of s (early ++ later)).locals ≡ locals
  pub wide : length cut ≡ s.callers
  pub counts : (j : ℕ) → j < s.callers
      → own_count (local_of (end_of s early) j) region ≡ slice_index cut j

-- In the locals of one reachable world, each cut that a scan gave was the callers' own counts in
-- its region at one moment.
abbrev pub GivenCutsWereCounts : Type 0
GivenCutsWereCounts =
    (s : Shape) (locals : List Local) (i p : ℕ) (given : Given) → AreTogether s locals
    → i < s.callers
    → slice_get (local_at locals i).cuts p ≡ Some given
    → WereOwnCounts s locals given.region given.cut

-- In the locals of one reachable world, each cut that a counted row embeds was the callers' own
-- counts in the row's region at one moment.
abbrev pub EmbeddedCutsWereOwnCounts : Type 0
EmbeddedCutsWereOwnCounts =
    (s : Shape) (locals : List Local) (i k : ℕ) (region : Region) → AreTogether s locals
    → i < s.callers
    → k < own_count (local_at locals i) region
    → WereOwnCounts s locals region (slice_index_or (embedded_in (local_at locals i) region) k [])

-- Any two cuts that scans of one region gave, to whichever callers, are comparable.
abbrev pub CutsAreComparable : Type 0
CutsAreComparable =
    (s : Shape) (steps : List Step) (i j p q : ℕ) (a b : Given) → IsRun s steps → i < s.callers
    → j < s.callers
    → slice_get (local_of (end_of s steps) i).cuts p ≡ Some a
    → slice_get (local_of (end_of s steps) j).cuts q ≡ Some b → a.region ≡ b.region
    → AreComparable a.cut b.cut

-- In the locals of one reachable world any two cuts that scans of one region gave are comparable.
abbrev pub GivenCutsAreComparable : Type 0
GivenCutsAreComparable =
    (s : Shape) (locals : List Local) (i j p q : ℕ) (a b : Given) → AreTogether s locals
    → i < s.callers → j < s.callers
    → slice_get (local_at locals i).cuts p ≡ Some a → slice_get (local_at locals j).cuts q ≡ Some b
    → a.region ≡ b.region → AreComparable a.cut b.cut

-- In the locals of one reachable world any two views are comparable.
abbrev pub ViewsAreComparable : Type 0
ViewsAreComparable =
    (s : Shape) (locals : List Local) (i j k m : ℕ) → AreTogether s locals → i < s.callers
    → j < s.callers
    → k < length (local_at locals i).views → m < length (local_at locals j).views
    → AreComparable (slice_index_or (local_at locals i).views k [])
    (slice_index_or (local_at locals j).views m [])

-- In the locals of one reachable world any two seen cuts are comparable.
abbrev pub SeenCutsAreComparable : Type 0
SeenCutsAreComparable =
    (s : Shape) (locals : List Local) (i j k m : ℕ) → AreTogether s locals → i < s.callers
    → j < s.callers
    → k < length (local_at locals i).seen → m < length (local_at locals j).seen
    → AreComparable (slice_index_or (local_at locals i).seen k [])
    (slice_index_or (local_at locals j).seen m [])

-- A cut of a region contains each cut of that region that its caller was given before.
abbrev pub CutsRise : Type 0
CutsRise =
    (s : Shape) (locals : List Local) (i p q : ℕ) (a b : Given) → AreTogether s locals
    → i < s.callers → p < q
    → slice_get (local_at locals i).cuts p ≡ Some a → slice_get (local_at locals i).cuts q ≡ Some b
    → a.region ≡ b.region → IsWithin a.cut b.cut

-- A count that a caller looked at before its scan of the same region began is at most the entry of
-- that scan's cut for the caller whose count it is. The field `since` of the cut says how many
-- counts had been looked at by then: the last ones of the list, which has the newest first.
abbrev pub CutsHoldLooked : Type 0
CutsHoldLooked =
    (s : Shape) (locals : List Local) (i p q : ℕ) (look : Looked) (given : Given)
    → AreTogether s locals → i < s.callers
    → slice_get (local_at locals i).looked p ≡ Some look
    → slice_get (local_at locals i).cuts q ≡ Some given
    → length (local_at locals i).looked ≤ p + given.since → look.region ≡ given.region
    → look.count ≤ slice_index given.cut look.caller

-- The field `since` of a cut is at most the number of counts that its caller has looked at.
abbrev pub CutsHaveSince : Type 0
CutsHaveSince =
    (s : Shape) (locals : List Local) (i q : ℕ) (given : Given) → AreTogether s locals
    → i < s.callers
    → slice_get (local_at locals i).cuts q ≡ Some given
    → given.since ≤ length (local_at locals i).looked
