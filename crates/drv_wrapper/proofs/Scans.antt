-- What the scans of a call leave of its caller's local: the one whose cut a row embeds, and the one
-- that gives the view.
use Rattle.std.proofs.Common.{◌≡◌, ℕ, true, List, [], ◌∷◌, ◌++◌, length, Some, None, refl, ap, ◌∙◌}
use Rattle.world_core.specs.declared.region.Region.{Region}
use Rattle.world_core.specs.declared.region.Region.TheVariants.{N, M}
use Rattle.world_core.specs.Local.{Phase, Announcing, Asking, Viewing, Publishing, Judging, Staged, Scan, Looked, Peeked, Local}
use Rattle.world_core.specs.Event.{Begins_scan, Begins_view, Purpose, For_row, purpose_of, served, is_staging}
use Rattle.collect_scan.specs.Scanned.{ScannedWords, found_by, scan_with, local_in_scan, HasScanned}

-- The local after a scan that serves the row: what the scan has looked at and peeked comes first.
abbrev pub scanned_for_row : Region → List ℕ → List Looked → List Peeked → Local → Local
scanned_for_row region cut looks peeks l =
    record l {
      to_embed = Some cut;
      scan = None;
      cuts = l.cuts ++ record { region = region; cut = cut; since = length l.looked } ∷ [];
      looked = looks ++ l.looked;
      peeked = peeks ++ l.peeked;
    }

abbrev pub scanned_for_view : ℕ → List ℕ → List Looked → List Peeked → Local → Local
scanned_for_view reply view looks peeks l =
    record l {
      replies = l.replies ++ reply ∷ [];
      views = l.views ++ view ∷ [];
      phase = Publishing;
      scan = None;
      cuts = l.cuts ++ record { region = N; cut = view; since = length l.looked } ∷ [];
      looked = looks ++ l.looked;
      peeked = peeks ++ l.peeked;
    }

-- A scan of the region that the phase stages, before a word of its row is staged, serves the row.
serves_row : (p : Phase) (region : Region) (scan : Scan) → scan.region ≡ region
    → is_staging p region ≡ true → purpose_of p [] scan ≡ For_row
serves_row Announcing N scan is e =
    ap (λ (r : Region). purpose_of Announcing [] (record scan { region = r })) is
serves_row Publishing M scan is e =
    ap (λ (r : Region). purpose_of Publishing [] (record scan { region = r })) is
serves_row Announcing M scan is e = absurd cc
serves_row Publishing N scan is e = absurd cc
serves_row Asking N scan is e = absurd cc
serves_row Asking M scan is e = absurd cc
serves_row Viewing N scan is e = absurd cc
serves_row Viewing M scan is e = absurd cc
serves_row Judging N scan is e = absurd cc
serves_row Judging M scan is e = absurd cc

pub row_scanned : (n : ℕ) (region : Region) (cut : List ℕ) (l m : Local)
    → is_staging l.phase region ≡ true → l.staged ≡ [] → HasScanned n region Begins_scan cut l m
    → (looks : List Looked) × (peeks : List Peeked) × (m ≡ scanned_for_row region cut looks peeks l)
row_scanned n region cut l m phase unstaged h =
    let found : ScannedWords = found_by n region h.taken in
    let scan : Scan = scan_with l region Begins_scan h.taken in
    let ended : Local = record (local_in_scan n l region Begins_scan h.taken) {
      scan = None;
      cuts = l.cuts ++ record { region = region; cut = cut; since = length l.looked } ∷ [];
    } in
    let purpose : purpose_of l.phase l.staged scan ≡ For_row =
    ap (λ (staged : List Staged). purpose_of l.phase staged scan) unstaged
    ∙ serves_row l.phase region scan refl phase in
    (found.looks, found.peeks, h.is ∙ ap (λ (p : Purpose). served ended p cut) purpose)

pub view_scanned : (n reply : ℕ) (view : List ℕ) (l m : Local)
    → HasScanned n N (Begins_view reply) view l m
    → (looks : List Looked) × (peeks : List Peeked)
    × (m ≡ scanned_for_view reply view looks peeks l)
view_scanned n reply view l m h =
    let found : ScannedWords = found_by n N h.taken in
    (found.looks, found.peeks, h.is)
