-- What the scan that sees a cut changes in its caller's local.
use Rattle.std.proofs.Common.{◌≡◌, ◌≢◌, ℕ, ◌-◌, List, [], ◌∷◌, ◌++◌, length, None, Some, slice_index, refl, sym, ap, subst, ◌∙◌, arith}
use Rattle.std.proofs.lemmas.List.{get_or_push}
use Rattle.book_base.specs.declared.call.Record.{Record}
use Rattle.world_core.specs.declared.region.Region.TheVariants.{M}
use Rattle.world_core.specs.Shape.{Shape}
use Rattle.world_core.specs.Local.{Phase, Announcing, Judging, Scan, Local, Given, Looked, Peeked}
use Rattle.world_core.specs.Event.{Begins_scan, Purpose, For_seen, For_nothing, purpose_of, served}
use Rattle.world_core.specs.Agreement.{HasPhase, unseen_records}
use Rattle.world_core.specs.Calls.{IsLocalOf}
use Rattle.report_lines.specs.Phases.{progress_of}
use Rattle.report_lines.specs.Progress.{after_seeing}
use Rattle.report_lines.proofs.Accounts.{seen_cuts_are_of_the_last_call}
use Rattle.collect_scan.specs.Scanned.{ScannedWords, found_by, scan_with, local_in_scan, HasScanned}
use Rattle.collect_scan.specs.Given.{purpose_with, HoldsLooks}
use Rattle.collect_scan.proofs.Owning.{own_entries_are_counts}
use Rattle.drv_wrapper.specs.Growth.{Grows}
use Rattle.drv_wrapper.proofs.Growing.{grows_by}
use Rattle.drv_wrapper.proofs.Locals.{local_has_phase}
use Rattle.enforcer.specs.Recorded.{IsPublishing, HasSeen, last_of_M}
use Rattle.enforcer.specs.Events.{IsSight}
use Rattle.enforcer.proofs.Standing.{judging_is}

-- The local `l` after a scan of M that made these looks and these peeks, and whose cut is the seen
-- cut.
abbrev pub scanned_for_seen : List ℕ → List Looked → List Peeked → Local → Local
scanned_for_seen cut looks peeks l =
    record l {
      seen = l.seen ++ cut ∷ [];
      phase = Announcing;
      scan = None;
      cuts = l.cuts ++ record { region = M; cut = cut; since = length l.looked } ∷ [];
      looked = looks ++ l.looked;
      peeked = peeks ++ l.peeked;
    }

seen_scanned : (n : ℕ) (cut : List ℕ) (l m : Local) → l.phase ≡ Judging
    → HasScanned n M Begins_scan cut l m
    → (looks : List Looked) × (peeks : List Peeked) × (m ≡ scanned_for_seen cut looks peeks l)
seen_scanned n cut l m phase h =
    let found : ScannedWords = found_by n M h.taken in
    let scan : Scan = scan_with l M Begins_scan h.taken in
    let ended : Local = record (local_in_scan n l M Begins_scan h.taken) {
      scan = None;
      cuts = l.cuts ++ record { region = M; cut = cut; since = length l.looked } ∷ [];
    } in
    let purpose : purpose_of l.phase l.staged scan ≡ For_seen =
    ap (λ (p : Phase). purpose_of p l.staged scan) phase in
    (found.looks, found.peeks, h.is ∙ ap (λ (p : Purpose). served ended p cut) purpose)

-- What holds where a caller with the local `l` has seen the cut, and now has the local `m`: this
-- record is its last published one, and the cut is its seen cut; the cut's count for caller `who`
-- is the number of its published records; its progress is that of `l` with the seen cut for its
-- last call; and it has each look, each peek and each given cut of `l`.
pub record Sees (who : ℕ) (r : Record) (cut : List ℕ) (l m : Local) : Type 0 where
  pub saw : HasSeen r cut m
  pub own : slice_index cut who ≡ m.published
  pub progress : progress_of m ≡ after_seeing cut (progress_of l)
  pub grows : Grows l m

-- The cut of a scan of M in the phase judge serves something: it becomes the seen cut.
serves : (l : Local) → l.phase ≡ Judging → purpose_with l M Begins_scan ≢ For_nothing
serves l phase none =
    let e : For_seen ≡ For_nothing =
    sym (ap (λ (p : Phase). purpose_of p l.staged (scan_with l M Begins_scan [])) phase) ∙ none in
    absurd cc

-- Where the last one of the given cuts is one of M, `last_of_M` is that cut.
last_is : (cuts : List Given) (cut : List ℕ) (since : ℕ)
    → last_of_M (cuts ++ record { region = M; cut = cut; since = since } ∷ []) ≡ Some cut
last_is [] cut since = refl
last_is (given ∷ []) cut since = refl
last_is (given ∷ later ∷ cuts) cut since = last_is (later ∷ cuts) cut since

seen_leaves : (r : Record) (cut : List ℕ) (l : Local) (looks : List Looked)
    (peeks : List Peeked) → HasPhase l → IsPublishing r l
    → HasSeen r cut (scanned_for_seen cut looks peeks l)
seen_leaves r cut l looks peeks has publishing =
    let unseen : unseen_records l.phase ≡ 1 =
    ap unseen_records (judging_is l.phase publishing.judging) in
    record {
      announcing = refl;
      unstaged = publishing.unstaged;
      free = refl;
      published = record {
        some = publishing.published.some;
        reply_is = publishing.published.reply_is;
        view_is = publishing.published.view_is;
      };
      last = last_is l.cuts cut (length l.looked);
      seen_is = get_or_push l.seen cut [] (l.published - 1) (omega (arith, has.seen, unseen));
    }

-- After a scan of M, a caller of a reachable world that had published its record has seen the
-- scan's cut, as `Sees` says.
pub sees : (s : Shape) (who now : ℕ) (r : Record) (cut : List ℕ) (l m : Local)
    → IsLocalOf s who l → IsLocalOf s now m → IsPublishing r l
    → HasScanned s.callers M Begins_scan cut l m → Sees now r cut l m
sees s who now r cut l m here there publishing h =
    let phase = judging_is l.phase publishing.judging in
    let has = local_has_phase s who l here in
    let (looks, peeks, is) = seen_scanned s.callers cut l m phase h in
    record {
      saw = subst (HasSeen r cut) (sym is)
          (seen_leaves r cut l looks peeks has publishing);
      own = own_entries_are_counts s now M Begins_scan cut l m there h (serves l phase);
      progress =
          ap progress_of is
          ∙ seen_cuts_are_of_the_last_call l
          (scanned_for_seen cut looks peeks l) cut has phase refl;
      grows = subst (Grows l) (sym is) (grows_by l (scanned_for_seen cut looks peeks l) looks peeks
          (record { region = M; cut = cut; since = length l.looked } ∷ []) refl refl refl);
    }

-- A scan of M by a caller that has published its record is what `IsSight` says.
pub sight : (n : ℕ) (r : Record) (cut : List ℕ) (l m : Local) → IsPublishing r l
    → HasScanned n M Begins_scan cut l m → HoldsLooks M cut l → IsSight n cut l m
sight n r cut l m publishing h looked =
    let (looks, peeks, is) = seen_scanned n cut l m (judging_is l.phase publishing.judging) h in
    record {
      scan = h;
      given = ap (λ (x : Local). x.cuts) is;
      looked = looked;
      seen = ap (λ (x : Local). x.seen) is;
    }
