-- What a scan adds to its caller's local, and what the cut that it gives has to do with the
-- caller's earlier cuts, looks and counts.
use Rattle.std.specs.Prelude.{◌≡◌, ◌≢◌, ℕ, ◌<◌, ◌≤◌, false, IsTrue, List, [], ◌∷◌, ◌++◌, length, Some, None, slice_get, slice_index}
use Rattle.book_base.specs.Cut.{IsWithin}
use Rattle.world_core.specs.declared.region.Region.{Region}
use Rattle.world_core.specs.Shape.{Shape}
use Rattle.world_core.specs.Local.{Viewing, Local, Given, Looked, Peeked, own_count}
use Rattle.world_core.specs.Event.{Opening, Purpose, For_nothing, opened, purpose_of, is_view_under_way, knows_row}
use Rattle.world_core.specs.Calls.{IsLocalOf}
use Rattle.row_table.specs.Progress.{work_of}
use Rattle.collect_scan.specs.Scanned.{scan_with, HasScanned}

-- What a scan of a region adds to its caller's list of given cuts, where the scan began on the
-- local `before` and ended with this cut.
abbrev pub given_with : Local → Region → List ℕ → Given
given_with before region cut = record { region = region; cut = cut; since = length before.looked }

-- The local `after` has the cuts that were given to the local `before`, and then this one, of this
-- region; no scan is under way in it; and it has all looks and all peeks of `before`, after newer
-- ones where there are any (both lists are newest first).
pub record AddsCut (region : Region) (cut : List ℕ) (before after : Local) : Type 0 where
  pub cuts : after.cuts ≡ before.cuts ++ given_with before region cut ∷ []
  pub none : after.scan ≡ None
  pub looks : List Looked
  pub looked : after.looked ≡ looks ++ before.looked
  pub peeks : List Peeked
  pub peeked : after.peeked ≡ peeks ++ before.peeked

-- Each scan adds the cut with which it ended to the cuts that its caller was given, as the last of
-- them; then no scan is under way, and no earlier look or peek is lost.
abbrev pub ScansAddTheirCut : Type 0
ScansAddTheirCut =
    (n : ℕ) (region : Region) (opening : Opening) (cut : List ℕ) (before after : Local)
    → HasScanned n region opening cut before after → AddsCut region cut before after

-- A scan doesn't change its caller's operations, counts, replies and object steps, except that the
-- view's scan adds the reply with which it begins.
abbrev pub ScansLeaveWork : Type 0
ScansLeaveWork =
    (n : ℕ) (region : Region) (opening : Opening) (cut : List ℕ) (before after : Local)
    → HasScanned n region opening cut before after
    → work_of after ≡ work_of (opened before region opening)

-- No count of the cut with which a scan ended is above the cap.
abbrev pub CutsAreFew : Type 0
CutsAreFew =
    (s : Shape) (i : ℕ) (region : Region) (opening : Opening) (cut : List ℕ) (before after : Local)
    → IsLocalOf s i after → HasScanned s.callers region opening cut before after
    → (j : ℕ) → slice_index cut j ≤ s.cap

-- What the cut of a scan of this region serves: the row under way, the view, the seen cut, or
-- nothing. The scan begins on the local `before`, and `opening` says whether it is the view's scan.
abbrev pub purpose_with : Local → Region → Opening → Purpose
purpose_with before region opening =
    let l : Local = opened before region opening in
    purpose_of l.phase l.staged (scan_with before region opening [])

-- Where the cut of a scan serves the row under way, the view or the seen cut, its entry for the
-- scan's own caller is the count that this caller has in the region after the scan.
abbrev pub OwnEntriesAreCounts : Type 0
OwnEntriesAreCounts =
    (s : Shape) (i : ℕ) (region : Region) (opening : Opening) (cut : List ℕ) (before after : Local)
    → IsLocalOf s i after → HasScanned s.callers region opening cut before after
    → purpose_with before region opening ≢ For_nothing → slice_index cut i ≡ own_count after region

-- Each count of the region that the caller with the local `l` has looked at is at most the cut's
-- entry for the caller whose count it is.
abbrev pub HoldsLooks : Region → List ℕ → Local → Type 0
HoldsLooks region cut l = (p : ℕ) (look : Looked) → slice_get l.looked p ≡ Some look
    → look.region ≡ region → look.count ≤ slice_index cut look.caller

-- A scan's cut contains each cut of its region that the caller was given before the scan.
abbrev pub CutsHoldGiven : Type 0
CutsHoldGiven =
    (s : Shape) (i p : ℕ) (region : Region) (opening : Opening) (cut : List ℕ)
    (before after : Local) (given : Given) → IsLocalOf s i after
    → HasScanned s.callers region opening cut before after
    → slice_get before.cuts p ≡ Some given → given.region ≡ region → IsWithin given.cut cut

-- The entries of a scan's cut are at least the counts of its region that the caller had looked at
-- before the scan.
abbrev pub CutsHoldLooks : Type 0
CutsHoldLooks =
    (s : Shape) (i : ℕ) (region : Region) (opening : Opening) (cut : List ℕ) (before after : Local)
    → IsLocalOf s i after → HasScanned s.callers region opening cut before after
    → HoldsLooks region cut before

-- Where a scan of a region gave a caller with this local a cut, this caller knows each row of each
-- caller `j` in the region whose number is below the cut's entry for `j`.
abbrev pub GivenRowsAreKnown : Type 0
GivenRowsAreKnown =
    (n : ℕ) (l : Local) (p j k : ℕ) (given : Given) → slice_get l.cuts p ≡ Some given
    → k < slice_index given.cut j → IsTrue (knows_row n l given.region j k)

-- In a local of a reachable world the view's scan is under way only if the local's phase is view.
abbrev pub ViewScansHavePhase : Type 0
ViewScansHavePhase = (s : Shape) (i : ℕ) (l : Local) → IsLocalOf s i l → l.phase ≢ Viewing
    → is_view_under_way l.scan ≡ false
