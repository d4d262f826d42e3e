-- What holds along every run.
use Rattle.std.specs.Prelude.{◌≡◌, ℕ, ◌<◌, ◌≤◌, ◌==◌, Bool, not, IsTrue, List, ◌++◌}
use Rattle.std.specs.List.{list_all}
use Rattle.world_core.specs.declared.region.Region.{Region}
use Rattle.world_core.specs.Layout.{places}
use Rattle.world_core.specs.Shape.{Shape}
use Rattle.world_core.specs.World.{World, Step, start, local_of, count_of, row_word, after, is_possible, IsRun, end_of, IsReachable}
use Rattle.world_core.specs.Agreement.{Agrees}

-- Whether none of these steps is made by caller i.
abbrev pub are_of_others : ℕ → List Step → Bool
are_of_others i steps = list_all (λ (step : Step). not (step.who == i)) steps

-- The world at the start is reachable.
abbrev pub StartIsReachable : Type 0
StartIsReachable = (s : Shape) → IsReachable s (start s)

-- The world after each step that is enabled in a reachable world is reachable.
abbrev pub StepsReach : Type 0
StepsReach = (s : Shape) (w : World) (step : Step) → IsReachable s w → IsTrue (is_possible s w step)
    → IsReachable s (after s w step)

-- Counts never fall along a run.
abbrev pub CountsNeverFall : Type 0
CountsNeverFall =
    (s : Shape) (before later : List Step) (region : Region) (i : ℕ) → IsRun s (before ++ later)
    → i < s.callers
    → count_of s (end_of s before) region i ≤ count_of s (end_of s (before ++ later)) region i

-- A counted row never changes: once a row's number is below its caller's count in a region, the
-- row's words of that region stay as they are.
abbrev pub CountedRowsStay : Type 0
CountedRowsStay =
    (s : Shape) (before later : List Step) (region : Region) (i k place : ℕ)
    → IsRun s (before ++ later) → i < s.callers
    → k < count_of s (end_of s before) region i → place < places s.callers region
    → row_word s (end_of s (before ++ later)) region i k place
    ≡ row_word s (end_of s before) region i k place

-- Only a caller's own events change its counts.
abbrev pub CountsAreOwn : Type 0
CountsAreOwn =
    (s : Shape) (before later : List Step) (region : Region) (i : ℕ) → IsRun s (before ++ later)
    → i < s.callers → IsTrue (are_of_others i later)
    → count_of s (end_of s (before ++ later)) region i ≡ count_of s (end_of s before) region i

-- Only a caller's own events change its rows.
abbrev pub RowsAreOwn : Type 0
RowsAreOwn =
    (s : Shape) (before later : List Step) (region : Region) (i k place : ℕ)
    → IsRun s (before ++ later) → i < s.callers → IsTrue (are_of_others i later)
    → k < s.cap → place < places s.callers region
    → row_word s (end_of s (before ++ later)) region i k place
    ≡ row_word s (end_of s before) region i k place

-- Only a caller's own events change its local.
abbrev pub LocalsAreOwn : Type 0
LocalsAreOwn =
    (s : Shape) (before later : List Step) (i : ℕ) → IsRun s (before ++ later) → i < s.callers
    → IsTrue (are_of_others i later)
    → local_of (end_of s (before ++ later)) i ≡ local_of (end_of s before) i

-- At the end of every run the local of each caller agrees with the words of the table.
abbrev pub LocalsAgree : Type 0
LocalsAgree = (s : Shape) (steps : List Step) (i : ℕ) → IsRun s steps → i < s.callers
    → Agrees s (end_of s steps).words i (local_of (end_of s steps) i)
