-- What one more word adds to what a scan has found, and to its caller's local during the scan.
use Rattle.std.proofs.Common.{◌≡◌, ℕ, ◌*◌, Bool, true, ◌&&◌, ◌==◌, if◌then◌else◌, List, [], ◌∷◌, ◌++◌, drop, Option, Some, refl, sym, ap, ◌∙◌, append_assoc, eq-eqb, arith}
use Rattle.std.proofs.Math.Nat.{zero-div}
use Rattle.std.proofs.lemmas.List.{append-nil}
use Rattle.std.proofs.lemmas.Bool.{and_from}
use Rattle.world_core.specs.declared.region.Region.{Region}
use Rattle.world_core.specs.declared.region.Region.TheVariants.{N, M}
use Rattle.world_core.specs.declared.course.Course.TheVariants.{Collects}
use Rattle.world_core.specs.declared.want.Want.{Want}
use Rattle.world_core.specs.declared.want.Want.TheVariants.{Look, Peek, Done}
use Rattle.world_core.specs.Layout.{embedded_place}
use Rattle.world_core.specs.Scan.{wanted, wanted_by, course_after}
use Rattle.world_core.specs.Local.{Scan, Local}
use Rattle.world_core.specs.Event.{Opening, Begins_none, Begins_scan, Begins_view, is_same_region, is_look_wanted, is_peek_wanted, opened, looked_at, peeked_at, with_look, with_peek, went_on}
use Rattle.collect_scan.specs.Scanned.{ScannedWords, found_with, found_from, found_by, scan_with, local_in_scan, local_stood}

found_from_more : (n : ℕ) (region : Region) (before : List ℕ) (f : ScannedWords)
    (words : List ℕ) (x : ℕ)
    → found_from n region before f (words ++ x ∷ [])
    ≡ found_with n region (wanted n (before ++ words)) x (found_from n region before f words)
found_from_more n region before f [] x =
    ap (λ (ws : List ℕ). found_with n region (wanted n ws) x f) (sym (append-nil before))
found_from_more n region before f (w ∷ words) x =
    let g : ScannedWords = found_with n region (wanted n before) w f in
    found_from_more n region (before ++ w ∷ []) g words x
    ∙ ap (λ (ws : List ℕ). found_with n region (wanted n ws) x
    (found_from n region (before ++ w ∷ []) g words)) (append_assoc before (w ∷ []) words)

-- What a scan has found with one word more is what it had found, with the word of the look or peek
-- that it needed.
pub found_more : (n : ℕ) (region : Region) (taken : List ℕ) (x : ℕ) → found_by n region
    (taken ++ x ∷ []) ≡ found_with n region (wanted n taken) x (found_by n region taken)
found_more n region taken x =
    found_from_more n region [] (record { looks = []; peeks = [] }) taken x

-- The test whether two regions are equal passes for a region and itself.
pub same_region_self : (region : Region) → is_same_region region region ≡ true
same_region_self N = refl
same_region_self M = refl

-- A scan that has taken no word needs the look at caller 0.
pub first_wanted : (n : ℕ) → wanted n [] ≡ Look 0
first_wanted n =
    let none : 0 * n ≡ 0 = omega arith in
    ap (λ (k : ℕ). wanted_by (course_after n [] k) (drop (k * n) [])) (zero-div n)
    ∙ ap (λ (k : ℕ). wanted_by Collects (drop k [])) none

went_scan : (l : Local) (s : Scan) (o : Option Scan) (w : Want)
    → went_on l s w ≡ went_on (record l { scan = o }) s w
went_scan l s o (Look j) = refl
went_scan l s o (Peek j row entry) = refl
went_scan l s o (Done cut) = refl

-- A scan of a region that began on the local `before` with this opening, had taken the words
-- `taken`, and now takes the word `x`.
module _ (n : ℕ) (before : Local) (region : Region) (opening : Opening) (taken : List ℕ)
    (x : ℕ) where
  abbrev more : List ℕ
  more = taken ++ x ∷ []

  abbrev scan : Scan
  scan = scan_with before region opening more

  abbrev with_found : ScannedWords → Local
  with_found f = record (opened before region opening)
      { scan = Some scan; looked = f.looks ++ before.looked; peeked = f.peeks ++ before.peeked }

  stood_with : (w : Want) → wanted n taken ≡ w
      → went_on (with_found (found_with n region w x (found_by n region taken))) scan
      (wanted n more) ≡ local_stood n before region opening more
  stood_with w is =
      ap (λ (f : ScannedWords). went_on (with_found f) scan (wanted n more))
      (ap (λ (v : Want). found_with n region v x (found_by n region taken)) (sym is)
      ∙ sym (found_more n region taken x))

  took : (b : Bool) (saw : Local) → b ≡ true → (if b then went_on saw scan (wanted n more) else saw)
      ≡ went_on (record saw { scan = Some scan }) scan (wanted n more)
  took b saw so = ap (λ (c : Bool). if c then went_on saw scan (wanted n more) else saw) so
      ∙ went_scan saw scan (Some scan) (wanted n more)

  -- Where the scan needs a look at caller j, a look there that finds x leads from the local during
  -- the scan to the local after the word x.
  pub look_goes : (j : ℕ) → wanted n taken ≡ Look j
      → looked_at n (local_in_scan n before region opening taken) region j x
      ≡ local_stood n before region opening more
  look_goes j is =
      let saw : Local = with_look (local_in_scan n before region opening taken)
      (record { region = region; caller = j; count = x }) in
      let it : is_look_wanted j (wanted n taken) ≡ true =
      ap (is_look_wanted j) is ∙ eq-eqb j j refl in
      took (is_same_region region region && is_look_wanted j (wanted n taken)) saw
      (and_from (is_same_region region region) (is_look_wanted j (wanted n taken))
      (same_region_self region) it)
      ∙ stood_with (Look j) is

  -- Where the scan needs a peek at an entry of an embedded cut, a peek at the place of that entry
  -- that finds x leads from the local during the scan to the local after the word x.
  pub peek_goes : (j row entry place : ℕ) → wanted n taken ≡ Peek j row entry
      → place ≡ embedded_place n region entry
      → peeked_at n (local_in_scan n before region opening taken) region j row place x
      ≡ local_stood n before region opening more
  peek_goes j row entry place is at =
      let saw : Local = with_peek (local_in_scan n before region opening taken) (record {
        region = region;
        caller = j;
        row = row;
        place = embedded_place n region entry;
        word = x;
      }) in
      let here : Bool =
      is_peek_wanted n region j row (embedded_place n region entry) (wanted n taken) in
      let it : is_peek_wanted n region j row (embedded_place n region entry)
      (wanted n taken) ≡ true =
      ap (is_peek_wanted n region j row (embedded_place n region entry)) is
      ∙ and_from (j == j)
      (row == row && embedded_place n region entry == embedded_place n region entry)
      (eq-eqb j j refl)
      (and_from (row == row) (embedded_place n region entry == embedded_place n region entry)
      (eq-eqb row row refl)
      (eq-eqb (embedded_place n region entry) (embedded_place n region entry) refl)) in
      ap (λ (p : ℕ). peeked_at n (local_in_scan n before region opening taken) region j row p x) at
      ∙ took (is_same_region region region && here) saw
      (and_from (is_same_region region region) here (same_region_self region) it)
      ∙ stood_with (Peek j row entry) is

-- An opening that begins a scan: a plain one, without a reply, or the view's, with one.
pub data Begins : Opening → Type 0 where
  Plainly : Begins Begins_scan
  With_reply : (reply : ℕ) → Begins (Begins_view reply)

-- A look at caller 0 that begins a scan is the first step of this scan: its word is the first that
-- the scan takes.
pub first_goes : (n : ℕ) (before : Local) (region : Region) (opening : Opening) (x : ℕ)
    → Begins opening
    → looked_at n (opened before region opening) region 0 x
    ≡ local_stood n before region opening (x ∷ [])
first_goes n before region Begins_none x h = elim h [ ]
first_goes n before region Begins_scan x h =
    look_goes n before region Begins_scan [] x 0 (first_wanted n)
first_goes n before region (Begins_view reply) x h =
    look_goes n before region (Begins_view reply) [] x 0 (first_wanted n)
