-- What a scan changes in its caller's local, and what it keeps.
use Rattle.std.proofs.Common.{◌≡◌, ℕ, Bool, true, ◌&&◌, nat_lt, List, [], ◌∷◌, ◌++◌, None, slice_index, refl, ap, ◌∙◌}
use Rattle.std.proofs.lemmas.Bool.{and_from, or_left, or_right, lt-ltb}
use Rattle.std.proofs.lemmas.List.Folds.{list_any_at}
use Rattle.std.proofs.lemmas.Option.{slice_get_within, get_or_from_slice_get}
use Rattle.world_core.specs.declared.region.Region.{Region}
use Rattle.world_core.specs.Local.{Given, Local}
use Rattle.world_core.specs.Event.{Opening, Begins_none, Begins_scan, Begins_view, Purpose, For_row, For_view, For_seen, For_nothing, is_same_region, opened, served, purpose_of}
use Rattle.row_table.specs.Progress.{work_of}
use Rattle.collect_scan.specs.Scanned.{scan_with, local_in_scan, found_by, HasScanned}
use Rattle.collect_scan.specs.Given.{given_with, ScansAddTheirCut, ScansLeaveWork, GivenRowsAreKnown}
use Rattle.collect_scan.proofs.Going.{same_region_self}

served_cuts : (l : Local) (p : Purpose) (cut : List ℕ) → (served l p cut).cuts ≡ l.cuts
served_cuts l For_row cut = refl
served_cuts l For_view cut = refl
served_cuts l For_seen cut = refl
served_cuts l For_nothing cut = refl

served_scan : (l : Local) (p : Purpose) (cut : List ℕ) → (served l p cut).scan ≡ l.scan
served_scan l For_row cut = refl
served_scan l For_view cut = refl
served_scan l For_seen cut = refl
served_scan l For_nothing cut = refl

served_looked : (l : Local) (p : Purpose) (cut : List ℕ) → (served l p cut).looked ≡ l.looked
served_looked l For_row cut = refl
served_looked l For_view cut = refl
served_looked l For_seen cut = refl
served_looked l For_nothing cut = refl

served_peeked : (l : Local) (p : Purpose) (cut : List ℕ) → (served l p cut).peeked ≡ l.peeked
served_peeked l For_row cut = refl
served_peeked l For_view cut = refl
served_peeked l For_seen cut = refl
served_peeked l For_nothing cut = refl

served_work : (l : Local) (p : Purpose) (cut : List ℕ) → work_of (served l p cut) ≡ work_of l
served_work l For_row cut = refl
served_work l For_view cut = refl
served_work l For_seen cut = refl
served_work l For_nothing cut = refl

opened_cuts : (l : Local) (region : Region) (o : Opening) → (opened l region o).cuts ≡ l.cuts
opened_cuts l region Begins_none = refl
opened_cuts l region Begins_scan = refl
opened_cuts l region (Begins_view reply) = refl

-- A caller's local when its scan has ended, before the cut serves its purpose, and that purpose.
module _ (n : ℕ) (region : Region) (opening : Opening) (cut : List ℕ) (before after : Local)
    (h : HasScanned n region opening cut before after) where
  abbrev pub here : Local
  here = local_in_scan n before region opening h.taken

  -- The local when the scan has ended: its cut is the last one that was given, and it hasn't yet
  -- served its purpose.
  abbrev pub ended : Local
  ended = record here { scan = None; cuts = here.cuts ++ given_with before region cut ∷ [] }

  -- What the cut of the scan serves.
  abbrev pub purpose : Purpose
  purpose = purpose_of here.phase here.staged (scan_with before region opening h.taken)

  -- The local after the scan is the one when the scan has ended, after the cut served its purpose.
  pub after_is : after ≡ served ended purpose cut
  after_is = h.is

-- A scan adds its cut to those that its caller was given, as the last of them.
pub scans_add_their_cut : ScansAddTheirCut
scans_add_their_cut n region opening cut before after h =
    let is = after_is n region opening cut before after h in
    let l : Local = ended n region opening cut before after h in
    let p : Purpose = purpose n region opening cut before after h in
    record {
      cuts = ap (λ (m : Local). m.cuts) is ∙ served_cuts l p cut
          ∙ ap (λ (gs : List Given). gs ++ given_with before region cut ∷ [])
          (opened_cuts before region opening);
      none = ap (λ (m : Local). m.scan) is ∙ served_scan l p cut;
      looks = (found_by n region h.taken).looks;
      looked = ap (λ (m : Local). m.looked) is ∙ served_looked l p cut;
      peeks = (found_by n region h.taken).peeks;
      peeked = ap (λ (m : Local). m.peeked) is ∙ served_peeked l p cut;
    }

-- A scan doesn't change its caller's calls once it has been opened.
pub scans_leave_work : ScansLeaveWork
scans_leave_work n region opening cut before after h =
    ap work_of (after_is n region opening cut before after h) ∙ served_work
    (ended n region opening cut before after h) (purpose n region opening cut before after h) cut

-- A caller knows each row below an entry of a cut that a scan gave it.
pub given_rows_are_known : GivenRowsAreKnown
given_rows_are_known n l p j k given is below =
    let known : Given → Bool =
    λ (g : Given). is_same_region g.region given.region && nat_lt k (slice_index g.cut j) in
    let here : known given ≡ true =
    and_from (is_same_region given.region given.region) (nat_lt k (slice_index given.cut j))
    (same_region_self given.region) (lt-ltb k (slice_index given.cut j) below) in
    or_right _ _
    (or_left _ _
    (list_any_at
    (λ (g : Given). is_same_region g.region given.region && nat_lt k (slice_index g.cut j)) l.cuts p
    given (slice_get_within l.cuts p given is)
    (ap known (get_or_from_slice_get l.cuts p given given is) ∙ here)))
