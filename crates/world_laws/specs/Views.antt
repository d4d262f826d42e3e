-- Which calls a view holds, by the order of the events of a run.
use Rattle.std.specs.Prelude.{◌≡◌, ℕ, ◌<◌, ◌≤◌, List, [], ◌∷◌, ◌++◌, length, slice_index, slice_index_or}
use Rattle.world_core.specs.declared.region.Region.TheVariants.{N}
use Rattle.world_core.specs.Shape.{Shape}
use Rattle.world_core.specs.Event.{Look, Begins_view}
use Rattle.world_core.specs.World.{Step, local_of, count_of, IsRun, end_of}

-- The step at which the call of a caller returns with a reply: the first look of its view's scan,
-- which finds the count x and carries the reply.
abbrev pub return_of : ℕ → ℕ → ℕ → Step
return_of who x reply = record { who = who; event = Look N 0 x (Begins_view reply) }

-- The view of a call holds every call that was invoked before its own call returned.
abbrev pub ViewsHoldEarlier : Type 0
ViewsHoldEarlier =
    (s : Shape) (before later : List Step) (who x reply k j : ℕ)
    → IsRun s (before ++ return_of who x reply ∷ later) → j < s.callers
    → k ≡ length (local_of (end_of s before) who).views
    → k < length (local_of (end_of s (before ++ return_of who x reply ∷ later)) who).views
    → count_of s (end_of s before) N j ≤ slice_index
    (slice_index_or (local_of (end_of s (before ++ return_of who x reply ∷ later)) who).views k [])
    j

-- A view that a caller has holds no call that is invoked afterwards.
abbrev pub ViewsHoldNoLater : Type 0
ViewsHoldNoLater =
    (s : Shape) (before later : List Step) (who k j : ℕ) → IsRun s (before ++ later)
    → who < s.callers → j < s.callers
    → k < length (local_of (end_of s before) who).views
    → slice_index (slice_index_or (local_of (end_of s (before ++ later)) who).views k []) j
    ≤ count_of s (end_of s before) N j
