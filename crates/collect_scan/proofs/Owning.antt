-- What the cut of a scan has to do with the counts of its caller, and with the caller's earlier
-- cuts and looks.
use Rattle.std.proofs.Common.{◌≡◌, ◌≢◌, ℕ, suc, ◌+◌, ◌<◌, Bool, true, false, List, [], ◌∷◌, ◌++◌, length, Option, Some, None, slice_get, slice_index, slice_index_or, refl, sym, ap, ◌∙◌, subst, arith, inl, inr, length-append}
use Rattle.std.proofs.lemmas.Bool.{cases_lt}
use Rattle.std.proofs.lemmas.List.{get_or_push, get_or_past}
use Rattle.std.proofs.lemmas.Option.{slice_get_within}
use Rattle.list_laws.proofs.Places.{slice_get-push_old, slice_get-push_last}
use Rattle.world_core.specs.declared.region.Region.{Region}
use Rattle.world_core.specs.declared.region.Region.TheVariants.{N, M}
use Rattle.world_core.specs.Shape.{Shape}
use Rattle.world_core.specs.Local.{Phase, Announcing, Asking, Viewing, Publishing, Judging, Staged, Scan, Given, Looked, Local, own_count}
use Rattle.world_core.specs.Event.{Opening, Purpose, For_row, For_view, For_seen, For_nothing, opened, is_staging, is_view_under_way, purpose_of, served}
use Rattle.world_core.specs.World.{World, start, local_of}
use Rattle.world_core.specs.Agreement.{HasPhase, FitsPhase, unpublished_calls, unpublished_views, unseen_records}
use Rattle.world_core.specs.Calls.{IsLocalOf, local_at}
use Rattle.world_laws.proofs.Knowing.{Sound, start_sound, steps_sound}
use Rattle.world_laws.proofs.Locals.{locals_have_phases, given_cuts_are_low}
use Rattle.world_laws.proofs.Ordering.{cuts_rise, cuts_hold_looked}
use Rattle.world_laws.proofs.Owning.{AllOwned, Owns, OwnsKept, start_owned, steps_owned}
use Rattle.collect_scan.specs.Scanned.{scan_with, HasScanned}
use Rattle.collect_scan.specs.Given.{given_with, AddsCut, CutsAreFew, OwnEntriesAreCounts, CutsHoldGiven, CutsHoldLooks, ViewScansHavePhase}
use Rattle.collect_scan.proofs.AfterScans.{scans_add_their_cut, ended, purpose, after_is}

-- What holds of the local of caller `i` in a reachable world: which entries for `i` its views, its
-- seen cuts and the cuts of its rows have, how long its lists are in its phase, and that its scan
-- under way fits its phase.
record Of (i : ℕ) (l : Local) : Type 0 where
  owns : Owns i l
  phase : HasPhase l
  scan : FitsPhase l.phase l.scan

local_of_world : (s : Shape) (i : ℕ) (l : Local) → IsLocalOf s i l → Of i l
local_of_world s i l (locals, (w, (steps, run, at), are), low, is) =
    let sound : Sound s w =
    subst (λ (v : World). Sound s v) at (steps_sound s (start s) steps (start_sound s) run) in
    let owned : AllOwned s w = subst (λ (v : World). AllOwned s v) at
    (steps_owned s (start s) steps (start_sound s) (start_owned s) run) in
    let same : local_of w i ≡ l = ap (λ (ls : List Local). local_at ls i) are ∙ is in
    let agrees = sound.kept.agree i low in
    subst (λ (m : Local). Of i m) same
    (record { owns = (owned i low).owns; phase = agrees.phase; scan = agrees.scan })

view_free : (phase : Phase) (o : Option Scan) → FitsPhase phase o → phase ≢ Viewing
    → is_view_under_way o ≡ false
view_free phase None h other = refl
view_free Announcing (Some scan) h other = h
view_free Asking (Some scan) h other = h
view_free Viewing (Some scan) h other = absurd (other refl)
view_free Publishing (Some scan) h other = h
view_free Judging (Some scan) h other = h

-- A local of a reachable world that isn't in the phase view has no view's scan under way.
pub view_scans_have_phase : ViewScansHavePhase
view_scans_have_phase s i l is other = view_free l.phase l.scan (local_of_world s i l is).scan other

-- What a purpose says of the region of the scan whose cut serves it: for the row under way the
-- phase stages that region, for the view it is N, and for the seen cut M.
abbrev PurposeIs : Purpose → Phase → Region → Type 0
PurposeIs For_row phase region = is_staging phase region ≡ true
PurposeIs For_view phase region = region ≡ N
PurposeIs For_seen phase region = region ≡ M
PurposeIs For_nothing phase region = Unit {0}

purpose_is : (phase : Phase) (staged : List Staged) (region : Region) (is_view : Bool) (since : ℕ)
    (taken : List ℕ)
    → PurposeIs (purpose_of phase staged
    (record { region = region; is_view = is_view; since = since; taken = taken })) phase region
purpose_is Announcing [] N is_view since taken = refl
purpose_is Announcing (w ∷ staged) N is_view since taken = tt
purpose_is Announcing staged M is_view since taken = tt
purpose_is Asking staged region is_view since taken = tt
purpose_is Viewing staged N true since taken = refl
purpose_is Viewing staged N false since taken = tt
purpose_is Viewing staged M is_view since taken = tt
purpose_is Publishing staged N is_view since taken = tt
purpose_is Publishing [] M is_view since taken = refl
purpose_is Publishing (w ∷ staged) M is_view since taken = tt
purpose_is Judging staged N is_view since taken = tt
purpose_is Judging staged M is_view since taken = refl

owns_some : (i count : ℕ) (kept : Option (List ℕ)) (cut : List ℕ) → kept ≡ Some cut
    → OwnsKept i count kept → slice_index cut i ≡ count
owns_some i count None cut is h = absurd cc
owns_some i count (Some other) cut is h = let same : other ≡ cut = cc in
    subst (λ (c : List ℕ). slice_index c i ≡ count) same h

-- Where each cut of a list has as its entry for caller i the number of the cut, counted from 1, the
-- last cut's entry is the length of the list.
last_own : (i : ℕ) (old new : List (List ℕ)) (cut : List ℕ) → new
    ≡ old ++ cut ∷ [] → ((k : ℕ) → k < length new → slice_index (slice_index_or new k []) i ≡ k + 1)
    → slice_index cut i ≡ length new
last_own i old new cut is own =
    let long : length new ≡ length old + 1 = ap length is ∙ length-append old (cut ∷ []) in
    let last : slice_index_or new (length old) [] ≡ cut =
    ap (λ (cs : List (List ℕ)). slice_index_or cs (length old) []) is
    ∙ get_or_push old cut [] (length old) refl in
    omega
    (arith, long, own (length old) (omega (arith, long)), ap (λ (c : List ℕ). slice_index c i) last)

module _ (i : ℕ) (l after : Local) (cut : List ℕ) (region : Region) (h : Of i after) where
  served_own : (p : Purpose) → after ≡ served l p cut → PurposeIs p l.phase region → p ≢ For_nothing
      → slice_index cut i ≡ own_count after region
  served_own For_row is at serves =
      owns_some i (own_count after region) after.to_embed cut (ap (λ (m : Local). m.to_embed) is)
      (h.owns.to_embed region (ap (λ (m : Local). is_staging m.phase region) is ∙ at))
  served_own For_view is at serves =
      let own = last_own i l.views after.views cut (ap (λ (m : Local). m.views) is) h.owns.views in
      let phase : after.phase ≡ Publishing = ap (λ (m : Local). m.phase) is in
      let calls : after.announced ≡ after.published + 1 =
      h.phase.announced ∙ ap (λ (f : Phase). after.published + unpublished_calls f) phase in
      let views : length after.views ≡ after.published + 1 =
      h.phase.views ∙ ap (λ (f : Phase). after.published + unpublished_views f) phase in
      omega (arith, own, calls, views, ap (own_count after) at)
  served_own For_seen is at serves =
      let own = last_own i l.seen after.seen cut (ap (λ (m : Local). m.seen) is) h.owns.seen in
      let phase : after.phase ≡ Announcing = ap (λ (m : Local). m.phase) is in
      let seen : length after.seen + 0 ≡ after.published =
      sym (ap (λ (f : Phase). length after.seen + unseen_records f) phase) ∙ h.phase.seen in
      omega (arith, own, seen, ap (own_count after) at)
  served_own For_nothing is at serves = absurd (serves refl)

purpose_same : (phase : Phase) (staged : List Staged) (region : Region) (is_view : Bool) (since : ℕ)
    (a b : List ℕ)
    → purpose_of phase staged
    (record { region = region; is_view = is_view; since = since; taken = a }) ≡ purpose_of phase
    staged (record { region = region; is_view = is_view; since = since; taken = b })
purpose_same Announcing staged region is_view since a b = refl
purpose_same Asking staged region is_view since a b = refl
purpose_same Viewing staged region is_view since a b = refl
purpose_same Publishing staged region is_view since a b = refl
purpose_same Judging staged region is_view since a b = refl

-- A scan's cut that serves something has as its caller's own entry the caller's count in the region
-- after the scan.
pub own_entries_are_counts : OwnEntriesAreCounts
own_entries_are_counts s i region opening cut before after is h serves =
    let l : Local = opened before region opening in
    served_own i (ended s.callers region opening cut before after h) after cut region
    (local_of_world s i after is) (purpose s.callers region opening cut before after h)
    (after_is s.callers region opening cut before after h)
    (purpose_is l.phase l.staged region (scan_with before region opening h.taken).is_view
    (length before.looked) h.taken)
    (λ none. serves (purpose_same l.phase l.staged region
    (scan_with before region opening []).is_view (length before.looked) [] h.taken ∙ none))

-- After a scan its cut is the last of those that its caller was given, and each earlier one is
-- where it was.
module _ (s : Shape) (i : ℕ) (region : Region) (opening : Opening) (cut : List ℕ)
    (before after : Local) (h : HasScanned s.callers region opening cut before after) where
  adds : AddsCut region cut before after
  adds = scans_add_their_cut s.callers region opening cut before after h

  last_there : slice_get after.cuts (length before.cuts) ≡ Some (given_with before region cut)
  last_there = ap (λ (gs : List Given). slice_get gs (length before.cuts)) adds.cuts
      ∙ slice_get-push_last before.cuts (given_with before region cut)

  old_there : (p : ℕ) (given : Given) → slice_get before.cuts p ≡ Some given
      → slice_get after.cuts p ≡ Some given
  old_there p given there =
      ap (λ (gs : List Given). slice_get gs p) adds.cuts
      ∙ slice_get-push_old before.cuts (given_with before region cut) p given there

slice_get-suffix : {X : Type 0} (more xs : List X) (p : ℕ)
    → slice_get (more ++ xs) (length more + p) ≡ slice_get xs p
slice_get-suffix [] xs p = ap (slice_get xs) (let e : 0 + p ≡ p = omega arith in e)
slice_get-suffix (y ∷ more) xs p = ap (slice_get (y ∷ (more ++ xs)))
    (let e : length (y ∷ more) + p ≡ suc (length more + p) = omega arith in e)
    ∙ slice_get-suffix more xs p

-- No count of a scan's cut is above the cap.
pub cuts_are_few : CutsAreFew
cuts_are_few s i region opening cut before after (locals, t, low, is) h j =
    let there = ap (λ (m : Local). slice_get m.cuts (length before.cuts)) is
    ∙ last_there s i region opening cut before after h in
    let small =
    given_cuts_are_low s locals i (length before.cuts) (given_with before region cut) t low there in
    elim (cases_lt j s.callers) [
      | inl fits ↦ omega (arith, small.1 j fits, (locals_have_phases s locals t).2 j region fits)
      | inr past ↦ omega (arith, get_or_past cut j 0 (omega (arith, past, small.0)))
    ]

-- A scan's cut contains each cut of its region that its caller was given before the scan.
pub cuts_hold_given : CutsHoldGiven
cuts_hold_given s i p region opening cut before after given (locals, t, low, is) h there same =
    cuts_rise s locals i p (length before.cuts) given (given_with before region cut) t low
    (slice_get_within before.cuts p given there)
    (ap (λ (m : Local). slice_get m.cuts p) is
    ∙ old_there s i region opening cut before after h p given there)
    (ap (λ (m : Local). slice_get m.cuts (length before.cuts)) is
    ∙ last_there s i region opening cut before after h) same

-- A scan's cut contains each count of its region that its caller had looked at before the scan.
pub cuts_hold_looks : CutsHoldLooks
cuts_hold_looks s i region opening cut before after (locals, t, low, is) h p look there same =
    let a = adds s i region opening cut before after h in
    let long : length (local_at locals i).looked ≡ length a.looks + length before.looked =
    ap (λ (m : Local). length m.looked) is ∙ ap length a.looked
    ∙ length-append a.looks before.looked in
    cuts_hold_looked s locals i (length a.looks + p) (length before.cuts) look
    (given_with before region cut) t low
    (ap (λ (m : Local). slice_get m.looked (length a.looks + p)) is
    ∙ ap (λ (xs : List Looked). slice_get xs (length a.looks + p)) a.looked
    ∙ slice_get-suffix a.looks before.looked p ∙ there)
    (ap (λ (m : Local). slice_get m.cuts (length before.cuts)) is
    ∙ last_there s i region opening cut before after h)
    (omega (arith, long)) same
