-- What holds of the cut of a scan, by when the scan began and when it ended.
use Rattle.std.specs.Prelude.{◌≡◌, ℕ, ◌<◌, ◌≤◌, List, ◌++◌, length, Some, slice_get, slice_index}
use Rattle.world_core.specs.Shape.{Shape}
use Rattle.world_core.specs.Local.{Given}
use Rattle.world_core.specs.World.{Step, local_of, count_of, IsRun, end_of}
use Rattle.world_core.specs.Snapshot.{ScanSpan, through_last, GivesCut, IsInstantaneous}

-- The cut of every scan of every run is instantaneous, borrowed cuts included (Afek and others
-- 1993).
abbrev pub CutsAreInstantaneous : Type 0
CutsAreInstantaneous = (s : Shape) (who : ℕ) (given : Given) (r : ScanSpan) → GivesCut s who given r
    → IsInstantaneous s given r

-- The cut of a scan holds all that was counted before the scan began.
abbrev pub CutsHoldEarlier : Type 0
CutsHoldEarlier =
    (s : Shape) (who : ℕ) (given : Given) (r : ScanSpan) (j : ℕ) → GivesCut s who given r
    → j < s.callers
    → count_of s (end_of s r.before) given.region j ≤ slice_index given.cut j

-- The cut of a scan holds nothing that was counted after the scan ended.
abbrev pub CutsHoldNoLater : Type 0
CutsHoldNoLater =
    (s : Shape) (who : ℕ) (given : Given) (r : ScanSpan) (j : ℕ) → GivesCut s who given r
    → j < s.callers
    → slice_index given.cut j ≤ count_of s (end_of s (through_last r)) given.region j

-- The entry of a scan's cut for the scanning caller is that caller's count as the scan ends.
abbrev pub CutsHoldOwn : Type 0
CutsHoldOwn =
    (s : Shape) (who : ℕ) (given : Given) (r : ScanSpan) → GivesCut s who given r
    → slice_index given.cut who ≡ count_of s (end_of s (through_last r)) given.region who

-- The field `since` of a cut is the number of counts that its caller had looked at before the cut's
-- scan began.
abbrev pub CutsTellSince : Type 0
CutsTellSince =
    (s : Shape) (who : ℕ) (given : Given) (r : ScanSpan) → GivesCut s who given r
    → given.since ≡ length (local_of (end_of s r.before) who).looked

-- A scan by caller `who` gave this cut in a span with which the run begins.
pub record IsGivenBy (s : Shape) (steps : List Step) (who : ℕ) (given : Given) : Type 0 where
  pub span : ScanSpan
  pub later : List Step
  pub parts : steps ≡ through_last span ++ later
  pub gives : GivesCut s who given span

-- Each cut that a caller was given came of a scan by this caller in some span of the run; so the
-- laws on the cut of a span hold of it too.
abbrev pub CutsHaveSpans : Type 0
CutsHaveSpans =
    (s : Shape) (steps : List Step) (i p : ℕ) (given : Given) → IsRun s steps → i < s.callers
    → slice_get (local_of (end_of s steps) i).cuts p ≡ Some given → IsGivenBy s steps i given
