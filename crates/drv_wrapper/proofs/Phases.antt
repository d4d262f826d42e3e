-- What announcing and viewing leave of a caller's local.
use Rattle.std.proofs.Common.{◌≡◌, ℕ, ◌+◌, true, List, [], ◌∷◌, ◌++◌, length, Some, length-append, refl, sym, ap, subst, ◌∙◌, arith}
use Rattle.std.proofs.lemmas.List.{get_or_push}
use Rattle.book_base.specs.declared.call.Record.{Record}
use Rattle.world_core.specs.declared.region.Region.TheVariants.{N}
use Rattle.world_core.specs.Local.{Phase, Announcing, Asking, Viewing, Publishing, Judging, IsIdle, Local, Looked, Peeked}
use Rattle.world_core.specs.Event.{Begins_scan, Begins_view, is_asking, is_staging}
use Rattle.world_core.specs.Agreement.{HasPhase, unpublished_calls, unpublished_replies, unpublished_views, unseen_records}
use Rattle.world_core.specs.Shape.{Shape}
use Rattle.world_core.specs.Calls.{IsLocalOf}
use Rattle.row_table.specs.declared.stance.Stance.{Stance}
use Rattle.row_table.specs.Actions.{opening_in}
use Rattle.row_table.specs.Stances.{opening_with}
use Rattle.collect_scan.specs.Scanned.{HasScanned}
use Rattle.collect_scan.specs.Given.{HoldsLooks}
use Rattle.row_table.specs.Staging.{local_announced}
use Rattle.drv_wrapper.specs.Stands.{ready, replied}
use Rattle.report_lines.specs.Phases.{progress_of}
use Rattle.report_lines.specs.Progress.{after_announcing, after_viewing}
use Rattle.report_lines.proofs.Accounts.{announced_account, operations_are_calls, replies_are_no_records, views_make_records}
use Rattle.drv_wrapper.specs.Growth.{Grows}
use Rattle.drv_wrapper.specs.Calling.{IsAsked, IsRecorded}
use Rattle.drv_wrapper.specs.Events.{HasAnnounced, HasViewed}
use Rattle.drv_wrapper.proofs.Locals.{local_has_phase}
use Rattle.drv_wrapper.proofs.Growing.{grows_by}
use Rattle.drv_wrapper.proofs.Scans.{scanned_for_row, scanned_for_view, row_scanned, view_scanned}

-- An announcement has led its caller from the local l to the local m, in which the call is asked,
-- and the progress is that of l with this call.
pub record Announces (n op : ℕ) (l m : Local) : Type 0 where
  pub events : HasAnnounced n op l m
  pub asked : IsAsked op m
  pub progress : progress_of m ≡ after_announcing op (progress_of l)
  pub grows : Grows l m

pub record Views (n op : ℕ) (r : Record) (l m : Local) : Type 0 where
  pub events : HasViewed n r l m
  pub recorded : IsRecorded op r m
  pub progress : progress_of m ≡ after_viewing r (progress_of l)
  pub grows : Grows l m

-- an announcement leaves this row, where its scan leaves the local as `scanned_for_row` says
announced_row : (n op : ℕ) (l : Local) (cut : List ℕ) (looks : List Looked) (peeks : List Peeked)
    → HasPhase l → l.phase ≡ Announcing
    → HasScanned n N Begins_scan cut l (scanned_for_row N cut looks peeks l) → HoldsLooks N cut l
    → Announces n op l (local_announced n op (scanned_for_row N cut looks peeks l))
announced_row n op l cut looks peeks has phase scan looked =
    let calls : unpublished_calls l.phase ≡ 0 = ap unpublished_calls phase in
    let m : Local = local_announced n op (scanned_for_row N cut looks peeks l) in
    let counted : l.announced ≡ l.published = omega (arith, has.announced, calls) in
    record {
      events = record {
        cut = cut;
        scanned = scanned_for_row N cut looks peeks l;
        scan = scan;
        is = refl;
        embedded = refl;
        given = refl;
        looked = looked;
        object_steps = refl;
      };
      asked =
          record {
            asking = refl;
            unstaged = refl;
            counted = ap (λ (k : ℕ). k + 1) counted;
            operation = get_or_push l.operations op 0 l.published (has.operations ∙ counted);
            scan = refl;
          };
      progress = operations_are_calls l m op has phase (announced_account l m op refl refl);
      grows = grows_by l m looks peeks
          (record { region = N; cut = cut; since = length l.looked } ∷ []) refl refl refl;
    }

-- in a reachable world, a caller that was idle before its scan announces its operation
pub announces : (s : Shape) (who op : ℕ) (cut : List ℕ) (stance : Stance) (l scanned m : Local)
    → IsLocalOf s who l → IsIdle l → stance ≡ ready
    → HasScanned s.callers N (opening_in (opening_with (Some N) stance.reply)) cut l scanned
    → HoldsLooks N cut l → m ≡ local_announced s.callers op scanned → Announces s.callers op l m
announces s who op cut stance l scanned m here idle stands scan looked is =
    let so : HasScanned s.callers N Begins_scan cut l scanned = subst (λ (x : Stance). HasScanned
    s.callers N (opening_in (opening_with (Some N) x.reply)) cut l scanned) stands scan in
    let (looks, peeks, leaves) = row_scanned s.callers N cut l scanned
    (ap (λ (p : Phase). is_staging p N) idle.announcing) idle.unstaged so in
    subst (Announces s.callers op l) (sym (is ∙ ap (local_announced s.callers op) leaves))
    (announced_row s.callers op l cut looks peeks (local_has_phase s who l here) idle.announcing
    (subst (HasScanned s.callers N Begins_scan cut l) leaves so) looked)

-- the phase is ask where the test says so
pub asking_is : (p : Phase) → is_asking p ≡ true → p ≡ Asking
asking_is Asking e = refl
asking_is Announcing e = absurd cc
asking_is Viewing e = absurd cc
asking_is Publishing e = absurd cc
asking_is Judging e = absurd cc

-- the local as the object's reply is handed over
abbrev with_reply : ℕ → Local → Local
with_reply reply l = record l { replies = l.replies ++ reply ∷ []; phase = Viewing }

replied_phase : (l : Local) (reply : ℕ) → HasPhase l → l.phase ≡ Asking
    → HasPhase (with_reply reply l)
replied_phase l reply has phase =
    let calls : unpublished_calls l.phase ≡ 1 = ap unpublished_calls phase in
    let replies : unpublished_replies l.phase ≡ 0 = ap unpublished_replies phase in
    let views : unpublished_views l.phase ≡ 0 = ap unpublished_views phase in
    let seen : unseen_records l.phase ≡ 0 = ap unseen_records phase in
    record {
      announced = omega (arith, has.announced, calls);
      operations = has.operations;
      replies = omega (arith, length-append l.replies (reply ∷ []), has.replies, replies);
      views = omega (arith, has.views, views);
      seen = omega (arith, has.seen, seen);
      embedded_in_N = has.embedded_in_N;
      embedded_in_M = has.embedded_in_M;
      object_steps = has.object_steps;
    }

-- a view leaves this record, where its scan leaves the local as `scanned_for_view` says
recorded_view : (n op reply : ℕ) (view : List ℕ) (l : Local) (looks : List Looked)
    (peeks : List Peeked) → HasPhase l → IsAsked op l
    → HasScanned n N (Begins_view reply) view l (scanned_for_view reply view looks peeks l)
    → HoldsLooks N view l
    → Views n op (record { reply = reply; view = view }) l (scanned_for_view reply view looks peeks l)
recorded_view n op reply view l looks peeks has asked scan looked =
    let phase : l.phase ≡ Asking = asking_is l.phase asked.asking in
    let replies : unpublished_replies l.phase ≡ 0 = ap unpublished_replies phase in
    let views : unpublished_views l.phase ≡ 0 = ap unpublished_views phase in
    let m : Local = scanned_for_view reply view looks peeks l in
    let replied_to : Local = with_reply reply l in
    let has_replies : length l.replies ≡ l.published = omega (arith, has.replies, replies) in
    let has_views : length l.views ≡ l.published = omega (arith, has.views, views) in
    record {
      events = record {
        scan = scan;
        replies = refl;
        views = refl;
        given = refl;
        looked = looked;
        object_steps = refl;
      };
      recorded =
          record {
            publishing = refl;
            unstaged = asked.unstaged;
            counted = asked.counted;
            operation = asked.operation;
            reply_is = get_or_push l.replies reply 0 l.published has_replies;
            view_is = get_or_push l.views view [] l.published has_views;
          };
      progress =
          views_make_records replied_to m view (replied_phase l reply has phase) refl refl
          ∙ (λ i. after_viewing
          (record { reply = get_or_push l.replies reply 0 l.published has_replies i; view = view })
          (replies_are_no_records l replied_to reply has phase refl i));
      grows = grows_by l m looks peeks
          (record { region = N; cut = view; since = length l.looked } ∷ []) refl refl refl;
    }

-- in a reachable world, a caller that had its reply before the scan takes its view
pub views : (s : Shape) (who op reply : ℕ) (view : List ℕ) (stance : Stance) (l m : Local)
    → IsLocalOf s who l → IsAsked op l → stance ≡ replied reply
    → HasScanned s.callers N (opening_in (opening_with (Some N) stance.reply)) view l m
    → HoldsLooks N view l → Views s.callers op (record { reply = reply; view = view }) l m
views s who op reply view stance l m here asked stands scan looked =
    let so : HasScanned s.callers N (Begins_view reply) view l m = subst
    (λ (x : Stance). HasScanned s.callers N (opening_in (opening_with (Some N) x.reply)) view l m)
    stands scan in
    let (looks, peeks, leaves) = view_scanned s.callers reply view l m so in
    subst (Views s.callers op (record { reply = reply; view = view }) l) (sym leaves)
    (recorded_view s.callers op reply view l looks peeks (local_has_phase s who l here) asked
    (subst (HasScanned s.callers N (Begins_view reply) view l) leaves so) looked)
