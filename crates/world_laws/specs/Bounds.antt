-- How many looks and peeks the scans of runs make.
use Rattle.std.specs.Prelude.{◌≡◌, ℕ, ◌+◌, ◌*◌, ◌<◌, ◌≤◌, List, [], ◌∷◌, ◌++◌, length, Some}
use Rattle.world_core.specs.declared.want.Want.TheVariants.{Done}
use Rattle.world_core.specs.Shape.{Shape}
use Rattle.world_core.specs.Local.{Scan, Given, Local}
use Rattle.world_core.specs.Scan.{IsSteady, looks, peeks, wanted}
use Rattle.world_core.specs.World.{Step, local_of, IsRun, end_of}
use Rattle.world_core.specs.Snapshot.{ScanSpan, up_to_last, GivesCut}
use Rattle.world_core.specs.Calls.{AreTogether, local_at}

-- The words that a scan by caller i of n callers has taken are steady. They come of at most n + 1
-- collects, which are n * (n + 1) looks, and of at most n peeks; so they are at most n * (n + 1) +
-- n.
pub record IsBounded (n i : ℕ) (taken : List ℕ) : Type 0 where
  pub steady : IsSteady n i taken
  pub looks : looks n taken ≤ n * (n + 1)
  pub peeks : peeks n taken ≤ n
  pub words : length taken ≤ n * (n + 1) + n

-- In every reachable world each scan that a caller has under way has steady words, and has made at
-- most n + 1 collects and n peeks, where n is the number of callers.
abbrev pub ScansAreBounded : Type 0
ScansAreBounded =
    (s : Shape) (locals : List Local) (i : ℕ) (scan : Scan) → AreTogether s locals → i < s.callers
    → (local_at locals i).scan ≡ Some scan
    → IsBounded s.callers i scan.taken

-- At the end of every run each scan that a caller has under way has steady words, and has made at
-- most n + 1 collects and n peeks, where n is the number of callers.
abbrev pub ScansAreBoundedInRuns : Type 0
ScansAreBoundedInRuns =
    (s : Shape) (steps : List Step) (i : ℕ) (scan : Scan) → IsRun s steps → i < s.callers
    → (local_of (end_of s steps) i).scan ≡ Some scan
    → IsBounded s.callers i scan.taken

-- The scan that gave a cut at the end of a span was done with that cut once it had taken its last
-- word; its words are steady, and it made at most n + 1 collects and n peeks, with n callers.
pub record IsEnded (s : Shape) (who : ℕ) (given : Given) (r : ScanSpan) : Type 0 where
  pub scan : Scan
  pub under : (local_of (end_of s (up_to_last r)) who).scan ≡ Some scan
  pub word : ℕ
  pub done : wanted s.callers (scan.taken ++ word ∷ []) ≡ Done given.cut
  pub bounded : IsBounded s.callers who (scan.taken ++ word ∷ [])

-- Each scan that gave a cut at the end of a span was done with that cut once it had taken its last
-- word; its words are steady, and it made at most n + 1 collects and n peeks, with n callers.
abbrev pub EndedScansAreBounded : Type 0
EndedScansAreBounded = (s : Shape) (who : ℕ) (given : Given) (r : ScanSpan) → GivesCut s who given r
    → IsEnded s who given r
