-- What a step of a scan makes of its caller's local.
use Rattle.std.proofs.Common.{◌≡◌, ℕ, ◌+◌, ◌-◌, ◌<◌, ◌≤◌, Bool, true, false, List, [], ◌∷◌, ◌++◌, length, Option, Some, None, refl, sym, ap, ◌∙◌, subst, arith, length-append}
use Rattle.std.proofs.lemmas.Option.{same_Some}
use Rattle.world_core.specs.declared.region.Region.{Region}
use Rattle.world_core.specs.declared.region.Region.TheVariants.{N, M}
use Rattle.world_core.specs.declared.want.Want.{Want}
use Rattle.world_core.specs.declared.want.Want.TheVariants.{Look, Peek, Done}
use Rattle.world_core.specs.Shape.{Shape, Meaning}
use Rattle.world_core.specs.Scan.{wanted, is_done}
use Rattle.world_core.specs.Local.{Scan, Local}
use Rattle.world_core.specs.Event.{Opening, Purpose, For_row, For_view, For_seen, For_nothing, served, given_by, purpose_of, went_on}
use Rattle.world_core.specs.Calls.{IsLocalOf}
use Rattle.world_laws.proofs.Endings.{ended_round, round_length}
use Rattle.row_table.specs.declared.caller.Caller.{Caller}
use Rattle.row_table.specs.declared.rows.Rows.{Rows}
use Rattle.row_table.specs.Actions.{opening_in}
use Rattle.row_table.specs.Stances.{opening_with}
use Rattle.row_table.specs.Callers.{who_of, local_with, stance_of}
use Rattle.row_table.specs.Notes.{wanted_next, given_now}
use Rattle.collect_scan.specs.declared.turns.Scan as driver
use Rattle.collect_scan.specs.Scanned.{scan_with, local_in_scan, local_stood, most_words, HasScanned}
use Rattle.collect_scan.specs.Turns.{IsScanning, HasTurned, scanner_of, region_of, has_begun, MayTurnAs, MayTurn}
use Rattle.collect_scan.proofs.Going.{Begins, Plainly, With_reply}
use Rattle.collect_scan.proofs.Ending.{scanning_few, stood_goes, stood_stays, turned_by}

-- The next look of a caller that means to scan a region begins a scan.
pub begins_with : (region : Region) (reply : Option ℕ)
    → Begins (opening_in (opening_with (Some region) reply))
begins_with N None = Plainly
begins_with N (Some reply) = With_reply reply
begins_with M reply = Plainly

-- Where a caller answers that its scan needs `w` next, and its local is the one during a scan that
-- has taken these words, `w` is what a scan with these words needs.
pub wants_is : (n m : ℕ) (l before : Local) (region : Region) (opening : Opening) (taken : List ℕ)
    (r : Option Want) (v w : Want) → r ≡ wanted_next m l.scan → r ≡ Some v → v ≡ w
    → m ≡ n → l ≡ local_in_scan n before region opening taken → wanted n taken ≡ w
wants_is n m l before region opening taken r v w tells some is same here =
    let told : Some (wanted n taken) ≡ Some v =
    (λ i. wanted_next (sym same i) (sym here i).scan) ∙ sym tells ∙ some in
    same_Some (wanted n taken) v told ∙ is

same_taken : (n : ℕ) (l a b : Local) (q r : Region) (o p : Opening) (s t : List ℕ)
    → l ≡ local_in_scan n a q o s → l ≡ local_in_scan n b r p t → s ≡ t
same_taken n l a b q r o p s t first second =
    let e : Some (scan_with a q o s) ≡ Some (scan_with b r p t) =
    sym (ap (λ (m : Local). m.scan) first) ∙ ap (λ (m : Local). m.scan) second in
    ap (λ (c : Scan). c.taken) (same_Some (scan_with a q o s) (scan_with b r p t) e)

module _ (s : Shape) (i : ℕ) (region : Region) where
  -- A scan under way in a reachable world that isn't done has taken fewer words than `most_words`.
  pub scanning_short : (l : Local) → IsLocalOf s i l → IsScanning s.callers region l
      → (before : Local) (opening : Opening) (taken : List ℕ)
      → l ≡ local_in_scan s.callers before region opening taken
      → length taken < most_words s.callers
  scanning_short l is h before opening taken here =
      let same : taken ≡ h.taken = same_taken s.callers l before h.before region region opening
      h.opening taken h.taken here h.is in
      let goes : is_done (wanted s.callers taken) ≡ false =
      ap (λ (ws : List ℕ). is_done (wanted s.callers ws)) same ∙ h.goes in
      scanning_few s i l (scan_with before region opening taken) is
      (ap (λ (m : Local). m.scan) here) goes

  module _ (now before : Local) (opening : Opening) (more : List ℕ) (is : IsLocalOf s i now)
      (stood : now ≡ local_stood s.callers before region opening more) where
    pub still_short : is_done (wanted s.callers more) ≡ false → length more < most_words s.callers
    still_short goes =
        scanning_few s i now (scan_with before region opening more) is
        (ap (λ (m : Local). m.scan) (stood ∙ stood_stays s.callers before region opening more goes))
        goes

    -- Where the local after the words of a scan gives no cut, that scan is under way and isn't
    -- done.
    pub scans_on : given_now now ≡ None → IsScanning s.callers region now
    scans_on none =
        let goes =
        stood_goes s.callers before region opening more (sym (ap given_now stood) ∙ none) in
        record {
          before = before;
          opening = opening;
          taken = more;
          is = stood ∙ stood_stays s.callers before region opening more goes;
          goes = goes;
        }

  -- `HasTurned` holds of a turn that took one more word of a scan which had taken fewer than
  -- `most_words`, and that answers the cut which its caller's local then gives, if it gives one.
  pub has_turned : (now before : Local) (opening : Opening) (taken : List ℕ) (x : ℕ)
      (r : Option (List ℕ)) → IsLocalOf s i now
      → now ≡ local_stood s.callers before region opening (taken ++ x ∷ []) → r ≡ given_now now
      → length taken < most_words s.callers
      → HasTurned s.callers region opening taken r before now
  has_turned now before opening taken x r is stood gives few =
      turned_by s.callers before region opening taken x r now (gives ∙ ap given_now stood)
      (omega (arith, few, length-append taken (x ∷ [])))
      (still_short now before opening (taken ++ x ∷ []) is stood) stood

-- The cut with which a scan of n callers ended, for n above 0, has n counts.
pub scanned_wide : (n : ℕ) (region : Region) (opening : Opening) (cut : List ℕ) (before now : Local)
    → 0 < n → HasScanned n region opening cut before now → length cut ≡ n
scanned_wide n region opening cut before now some h =
    let round = ended_round n h.taken some cut h.done in
    ap length round.is ∙ round_length n h.taken round.number round.whole

-- The measure of a scan: how many words it may still take, and one more, while it is under way; 0
-- while no scan is under way.
abbrev pub words_left : ℕ → Option Scan → ℕ
words_left n None = 0
words_left n (Some scan) = most_words n + 1 - length scan.taken

served_none : (l : Local) (p : Purpose) (cut : List ℕ) → (served l p cut).scan ≡ l.scan
served_none l For_row cut = refl
served_none l For_view cut = refl
served_none l For_seen cut = refl
served_none l For_nothing cut = refl

left_by : (n : ℕ) (l : Local) (s : Scan) (w : Want)
    → words_left n (went_on l s w).scan ≤ most_words n + 1 - length s.taken
left_by n l s (Look j) = omega arith
left_by n l s (Peek j row entry) = omega arith
left_by n l s (Done cut) =
    omega (
      arith,
      ap (words_left n)
          (served_none (record l { scan = None; cuts = l.cuts ++ given_by s cut ∷ [] })
          (purpose_of l.phase l.staged s) cut),
    )

-- A word that a scan takes which had taken fewer than `most_words` lowers the scan's measure.
pub left_fewer : (n : ℕ) (old now before : Local) (region : Region) (opening : Opening)
    (taken : List ℕ) (x : ℕ) → old ≡ local_in_scan n before region opening taken
    → length taken < most_words n → now ≡ local_stood n before region opening (taken ++ x ∷ [])
    → words_left n now.scan < words_left n old.scan
left_fewer n old now before region opening taken x is few stood =
    let had : words_left n old.scan ≡ most_words n + 1 - length taken =
    ap (λ (l : Local). words_left n l.scan) is in
    let has : words_left n now.scan
    ≡ words_left n (local_stood n before region opening (taken ++ x ∷ [])).scan =
    ap (λ (l : Local). words_left n l.scan) stood in
    let most = left_by n (local_in_scan n before region opening (taken ++ x ∷ []))
    (scan_with before region opening (taken ++ x ∷ [])) (wanted n (taken ++ x ∷ [])) in
    omega (arith, had, has, most, few, length-append taken (x ∷ []))

module _ {P : Type 0} (meaning : P → ℕ → ℕ → Meaning) (r : Rows P) (c : Caller P)
    (s : driver.Scan P) (region : Region) where
  -- A caller with a scan under way that isn't done, which means to begin no other scan, may make
  -- the next turn of this scan of its own once the first was made.
  pub may_turn : has_begun s ≡ true → region_of s ≡ region → scanner_of s ≡ who_of c
      → (stance_of c).begins ≡ None → IsScanning r.callers region (local_with c)
      → MayTurn meaning r c s
  may_turn begun same who plain h =
      record {
        who = who;
        may =
            subst (λ (b : Bool). MayTurnAs b meaning r c (region_of s)) (sym begun)
            (record {
              plain = plain;
              scanning = subst (λ (q : Region). IsScanning r.callers q (local_with c)) (sym same) h;
            });
      }
