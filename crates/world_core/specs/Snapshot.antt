-- What it means that a scan gave a cut in a run, and that the cut was the counts of its region at
-- one moment of the run (Afek and others 1993).
use Rattle.std.specs.Prelude.{◌≡◌, ℕ, Bool, true, false, not, ◌&&◌, ◌==◌, IsTrue, List, [], ◌∷◌, ◌++◌, map}
use Rattle.std.specs.List.{list_all, range_with_len}
use Rattle.world_core.specs.declared.region.Region.{Region}
use Rattle.world_core.specs.Shape.{Shape}
use Rattle.world_core.specs.Local.{Given}
use Rattle.world_core.specs.Event.{Event, Announce, Look, Publish, Opening, Begins_none, Begins_scan, Begins_view, is_same_region}
use Rattle.world_core.specs.World.{World, Step, local_of, count_of, IsRun, end_of}

-- The counts of all callers in a region of a world, by number of the caller. They are a cut.
abbrev pub counts_in : Shape → Region → World → List ℕ
counts_in s region w = map (λ i. count_of s w region i) (range_with_len 0 s.callers)

-- Whether a look with this opening begins a scan. The scan may be that of a call's view, or any
-- other one.
abbrev pub is_opening : Opening → Bool
is_opening Begins_none = false
is_opening Begins_scan = true
is_opening (Begins_view reply) = true

-- Whether an event is a look in this region that begins a scan.
abbrev pub is_first_look : Region → Event → Bool
is_first_look region (Look r j x opening) = is_same_region r region && is_opening opening
is_first_look region _ = false

-- Whether a step is a look of this caller in this region that begins a scan.
abbrev pub begins_scan : ℕ → Region → Step → Bool
begins_scan who region step = step.who == who && is_first_look region step.event

-- Whether an event gives up the scan that its caller has under way, if there is one: it is an
-- announcement, a publication, or a look that begins a scan.
abbrev pub gives_up : Event → Bool
gives_up Announce = true
gives_up Publish = true
gives_up (Look region j x opening) = is_opening opening
gives_up _ = false

-- Whether a step lets the scan of caller `who` go on or end: it is another caller's step, or its
-- event gives up no scan.
abbrev pub keeps_scan : ℕ → Step → Bool
keeps_scan who step = not (step.who == who && gives_up step.event)

-- The steps of a run up to the end of a scan, in four parts: the steps before the scan; its first
-- look; the steps between; and the scan's last step, a look or the last peek at a cut that another
-- caller's row embeds.
pub record ScanSpan : Type 0 where
  pub before : List Step
  pub first : Step
  pub between : List Step
  pub last : Step

-- All steps of a span but the scan's last one, from the start of the run on.
abbrev pub up_to_last : ScanSpan → List Step
up_to_last r = r.before ++ r.first ∷ r.between

-- All steps of a span, from the start of the run through the scan's last step.
abbrev pub through_last : ScanSpan → List Step
through_last r = up_to_last r ++ r.last ∷ []

-- A scan of caller `who` has this span and gives this cut: the steps of the span are a run, its
-- first look is that caller's and begins a scan of the cut's region, no later step gives the scan
-- up, and the last step adds the cut to those that the caller's scans gave.
pub record GivesCut (s : Shape) (who : ℕ) (given : Given) (r : ScanSpan) : Type 0 where
  pub run : IsRun s (through_last r)
  pub begins : IsTrue (begins_scan who given.region r.first)
  pub keeps : IsTrue (list_all (keeps_scan who) (r.between ++ r.last ∷ []))
  pub ends : (local_of (end_of s (through_last r)) who).cuts
      ≡ (local_of (end_of s (up_to_last r)) who).cuts ++ given ∷ []

-- The cut of a scan is instantaneous where the counts of its region were exactly this cut at some
-- moment after the scan's first look and before its last step.
abbrev pub IsInstantaneous : Shape → Given → ScanSpan → Type 0
IsInstantaneous s given r =
    (early late : List Step) × (r.between ≡ early ++ late)
    × (counts_in s given.region (end_of s (r.before ++ r.first ∷ early)) ≡ given.cut)
