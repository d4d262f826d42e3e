-- What the publication of a record, with the scan before it, changes in its caller's local.
use Rattle.std.proofs.Common.{◌≡◌, ℕ, ◌+◌, ◌-◌, List, [], ◌∷◌, length, Some, slice_index, slice_index_or, refl, sym, ap, subst, ◌∙◌, arith}
use Rattle.book_base.specs.declared.call.Record.{Record}
use Rattle.world_core.specs.declared.region.Region.TheVariants.{M}
use Rattle.world_core.specs.Shape.{Shape}
use Rattle.world_core.specs.Local.{Phase, Publishing, Local, Looked, Peeked}
use Rattle.world_core.specs.Event.{Begins_scan, Publish, is_staging, local_after}
use Rattle.report_lines.specs.Phases.{progress_of}
use Rattle.report_lines.specs.Progress.{after_publishing}
use Rattle.report_lines.proofs.Accounts.{publications_count}
use Rattle.row_table.specs.declared.stance.Stance.{Stance}
use Rattle.row_table.specs.Actions.{opening_in}
use Rattle.row_table.specs.Stances.{opening_with}
use Rattle.collect_scan.specs.Scanned.{HasScanned}
use Rattle.row_table.specs.Staging.{MayPublish}
use Rattle.drv_wrapper.specs.Growth.{Grows}
use Rattle.drv_wrapper.specs.Calling.{IsRecorded}
use Rattle.drv_wrapper.proofs.Growing.{grows_by}
use Rattle.drv_wrapper.proofs.Scans.{scanned_for_row, row_scanned}
use Rattle.collect_scan.specs.Given.{HoldsLooks}
use Rattle.enforcer.specs.Recorded.{IsPublishing}
use Rattle.enforcer.specs.Events.{IsPublication}
use Rattle.enforcer.proofs.Standing.{publishing_is, unstaged_is}

-- What holds where a caller with the local `l` has made the scan before a publication, which gave
-- the cut, and now has the local `m`: it may publish this record in a row that embeds this cut; and
-- after the publication the record is its last published one, its progress is that of `l` with one
-- published record more, and it has each look, each peek and each given cut of `l`.
pub record Readies (n : ℕ) (r : Record) (cut : List ℕ) (l m : Local) : Type 0 where
  pub may : MayPublish n r.reply r.view cut m
  pub published : IsPublishing r (local_after n m Publish)
  pub progress : progress_of (local_after n m Publish) ≡ after_publishing (progress_of l)
  pub grows : Grows l (local_after n m Publish)

readied : (n op : ℕ) (r : Record) (cut : List ℕ) (l : Local) (looks : List Looked)
    (peeks : List Peeked) → length r.view ≡ n → length cut ≡ n → l.phase ≡ Publishing
    → IsRecorded op r l → Readies n r cut l (scanned_for_row M cut looks peeks l)
readied n op r cut l looks peeks view_wide wide phase recorded =
    let m : Local = local_after n (scanned_for_row M cut looks peeks l) Publish in
    let number : l.published ≡ (l.published + 1) - 1 = omega arith in
    record {
      may = record {
        phase = phase;
        reply_is = recorded.reply_is;
        view_is = recorded.view_is;
        view_wide = view_wide;
        embeds = refl;
        wide = wide;
      };
      published =
          record {
            judging = refl;
            unstaged = refl;
            published =
                record {
                  some = omega arith;
                  reply_is = ap (slice_index l.replies) (sym number) ∙ recorded.reply_is;
                  view_is =
                      ap (λ (k : ℕ). slice_index_or l.views k []) (sym number) ∙ recorded.view_is;
                };
          };
      progress = publications_count l m refl;
      grows = grows_by l m looks peeks
          (record { region = M; cut = cut; since = length l.looked } ∷ []) refl refl refl;
    }

readies : (n op : ℕ) (r : Record) (cut : List ℕ) (l m : Local) → length r.view ≡ n
    → length cut ≡ n → IsRecorded op r l
    → HasScanned n M Begins_scan cut l m → Readies n r cut l m
readies n op r cut l m view_wide wide recorded h =
    let phase = publishing_is l.phase recorded.publishing in
    let (looks, peeks, is) = row_scanned n M cut l m (ap (λ (p : Phase). is_staging p M) phase)
    (unstaged_is l.staged recorded.unstaged) h in
    subst (Readies n r cut l) (sym is)
    (readied n op r cut l looks peeks view_wide wide phase recorded)

-- A caller that made a scan of M after its call was viewed is ready to publish the record of that
-- call, as `Readies` says.
pub readies_of : (s : Shape) (op : ℕ) (r told : Record) (cut : List ℕ) (stance : Stance)
    (l k m : Local) → told ≡ r → k ≡ l
    → length r.view ≡ s.callers → length cut ≡ s.callers → IsRecorded op r l
    → HasScanned s.callers M (opening_in (opening_with (Some M) stance.reply)) cut k m
    → Readies s.callers told cut l m
readies_of s op r told cut stance l k m same_record same view_wide wide recorded h =
    subst (λ (x : Record). Readies s.callers x cut l m) (sym same_record)
    (readies s.callers op r cut l m view_wide wide recorded
    (subst (λ (x : Local). HasScanned s.callers M Begins_scan cut x m) same h))

-- A scan of M by a caller whose call is recorded, and the publication after it, make up what
-- `IsPublication` says.
pub publication : (n op : ℕ) (r : Record) (cut : List ℕ) (l k scanned m : Local) → k ≡ l
    → IsRecorded op r l → HasScanned n M Begins_scan cut k scanned → HoldsLooks M cut k
    → m ≡ local_after n scanned Publish → IsPublication n l m
publication n op r cut l k scanned m same recorded scan looked is =
    let h : HasScanned n M Begins_scan cut l scanned =
    subst (λ (x : Local). HasScanned n M Begins_scan cut x scanned) same scan in
    let phase = publishing_is l.phase recorded.publishing in
    let (looks, peeks, leaves) = row_scanned n M cut l scanned
    (ap (λ (p : Phase). is_staging p M) phase) (unstaged_is l.staged recorded.unstaged) h in
    let row : m ≡ local_after n (scanned_for_row M cut looks peeks l) Publish =
    is ∙ ap (λ (x : Local). local_after n x Publish) leaves in
    record {
      cut = cut;
      scanned = scanned;
      scan = h;
      is = is;
      embedded = ap (λ (x : Local). x.embedded_in_M) row;
      given = ap (λ (x : Local). x.cuts) row;
      looked = subst (HoldsLooks M cut) same looked;
    }
