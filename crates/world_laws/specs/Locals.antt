-- What holds of the locals of one reachable world, said of locals alone; and what then holds of the
-- world at the end of a run.
use Rattle.std.specs.Prelude.{◌≡◌, ℕ, ◌<◌, ◌≤◌, IsTrue, List, [], ◌∷◌, ◌++◌, length, Some, None, slice_get, slice_index}
use Rattle.book_base.specs.declared.call.Call.{Call}
use Rattle.world_core.specs.declared.region.Region.{Region}
use Rattle.world_core.specs.declared.region.Region.TheVariants.{M}
use Rattle.world_core.specs.Layout.{places, content}
use Rattle.world_core.specs.Shape.{Shape}
use Rattle.world_core.specs.Local.{Local, Given, Looked, own_count, word_of}
use Rattle.world_core.specs.Event.{Announce, Publish, knows_row}
use Rattle.world_core.specs.World.{Step, local_of, count_of, row_word, IsRun, end_of}
use Rattle.world_core.specs.Agreement.{HasPhase}
use Rattle.world_core.specs.Calls.{AreTogether, IsPublished, HasPeeked, local_at}

-- In every reachable world there is one local for each caller. The counts and the list lengths of
-- each local are those that its phase demands, and its counts are at most the cap.
abbrev pub LocalsHavePhases : Type 0
LocalsHavePhases =
    (s : Shape) (locals : List Local) → AreTogether s locals
    → (length locals ≡ s.callers)
    × ((i : ℕ) → i < s.callers → HasPhase (local_at locals i))
    × ((i : ℕ) (region : Region) → i < s.callers → own_count (local_at locals i) region ≤ s.cap)

-- Row k of caller j exists and is counted in a region.
abbrev pub IsCountedRow : Shape → List Local → Region → ℕ → ℕ → Type 0
IsCountedRow s locals region j k = (j < s.callers) × (k < s.cap)
    × (k < own_count (local_at locals j) region)

-- In the locals of a reachable world each row that a caller knows to be counted in a region (by a
-- count that it looked at, by a cut that a scan gave it or, in N, by an entry of a view that it
-- peeked) exists and is counted there.
abbrev pub KnownRowsAreCounted : Type 0
KnownRowsAreCounted =
    (s : Shape) (locals : List Local) (i j k : ℕ) (region : Region) → AreTogether s locals
    → i < s.callers
    → IsTrue (knows_row s.callers (local_at locals i) region j k) → IsCountedRow s locals region j k

-- A word that a caller peeked in a row is the word of the row's call that belongs at this place,
-- and the row is counted.
abbrev pub PeekedWordsAreWords : Type 0
PeekedWordsAreWords =
    (s : Shape) (locals : List Local) (i : ℕ) (region : Region) (call : Call) (place x : ℕ)
    → AreTogether s locals → i < s.callers
    → HasPeeked (local_at locals i) region call place x
    → IsCountedRow s locals region call.caller call.number × (place < places s.callers region)
    × (x ≡ word_of (local_at locals call.caller) call.number (content s.callers region place))

-- A count that a caller looked at is the count of a caller of the world, and is at most that
-- caller's own count.
abbrev pub LookedCountsAreLow : Type 0
LookedCountsAreLow =
    (s : Shape) (locals : List Local) (i p : ℕ) (look : Looked) → AreTogether s locals
    → i < s.callers
    → slice_get (local_at locals i).looked p ≡ Some look
    → (look.caller < s.callers) × (look.count ≤ own_count (local_at locals look.caller) look.region)

-- A cut that a scan gave has one count for each caller, none above that caller's own count.
abbrev pub GivenCutsAreLow : Type 0
GivenCutsAreLow =
    (s : Shape) (locals : List Local) (i p : ℕ) (given : Given) → AreTogether s locals
    → i < s.callers
    → slice_get (local_at locals i).cuts p ≡ Some given
    → (length given.cut ≡ s.callers) × ((j : ℕ) → j < s.callers
    → slice_index given.cut j ≤ own_count (local_at locals j) given.region)

-- A cut of M that a scan gave counts published records alone.
abbrev pub GivenCutsArePublished : Type 0
GivenCutsArePublished =
    (s : Shape) (locals : List Local) (i p : ℕ) (given : Given) → AreTogether s locals
    → i < s.callers
    → slice_get (local_at locals i).cuts p ≡ Some given → given.region ≡ M
    → IsPublished locals given.cut

-- At the end of a run each row that a caller knows to be counted in a region (by a count that it
-- looked at, by a cut that a scan gave it or, in N, by an entry of a view that it peeked) exists,
-- and its number is below the count word of its caller in that region.
abbrev pub KnownRowsAreCountedInRuns : Type 0
KnownRowsAreCountedInRuns =
    (s : Shape) (steps : List Step) (i j k : ℕ) (region : Region) → IsRun s steps → i < s.callers
    → IsTrue (knows_row s.callers (local_of (end_of s steps) i) region j k) → (j < s.callers)
    × (k < s.cap) × (k < count_of s (end_of s steps) region j)

-- A word that a caller has peeked in a run stands at its place in a counted row at the run's end.
abbrev pub PeekedWordsStand : Type 0
PeekedWordsStand =
    (s : Shape) (steps : List Step) (i : ℕ) (region : Region) (call : Call) (place x : ℕ)
    → IsRun s steps → i < s.callers
    → HasPeeked (local_of (end_of s steps) i) region call place x
    → (call.number < count_of s (end_of s steps) region call.caller)
    × (x ≡ row_word s (end_of s steps) region call.caller call.number place)

-- A count that a caller has looked at is at most what the same count word is at the end of the run.
abbrev pub LookedCountsAreLowInRuns : Type 0
LookedCountsAreLowInRuns =
    (s : Shape) (steps : List Step) (i p : ℕ) (look : Looked) → IsRun s steps → i < s.callers
    → slice_get (local_of (end_of s steps) i).looked p ≡ Some look
    → (look.caller < s.callers) × (look.count ≤ count_of s (end_of s steps) look.region look.caller)

-- An announcement gives up the scan that its caller has under way, if there is one.
abbrev pub AnnouncementsGiveUpScans : Type 0
AnnouncementsGiveUpScans =
    (s : Shape) (before : List Step) (who : ℕ)
    → IsRun s (before ++ record { who = who; event = Announce } ∷ [])
    → (local_of (end_of s (before ++ record { who = who; event = Announce } ∷ [])) who).scan ≡ None

-- A publication gives up the scan that its caller has under way, if there is one.
abbrev pub PublicationsGiveUpScans : Type 0
PublicationsGiveUpScans =
    (s : Shape) (before : List Step) (who : ℕ)
    → IsRun s (before ++ record { who = who; event = Publish } ∷ [])
    → (local_of (end_of s (before ++ record { who = who; event = Publish } ∷ [])) who).scan ≡ None
