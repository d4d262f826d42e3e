-- How a scan ends, and that it has taken fewer words than `most_words` until then.
use Rattle.std.proofs.Common.{◌≡◌, ℕ, zero, suc, ◌+◌, ◌*◌, ◌<◌, ◌≤◌, false, List, [], ◌∷◌, ◌++◌, length, Option, Some, None, refl, sym, ap, ◌∙◌, arith}
use Rattle.std.proofs.lemmas.Nat.{mul-le}
use Rattle.world_core.specs.declared.region.Region.{Region}
use Rattle.world_core.specs.declared.course.Course.{Course}
use Rattle.world_core.specs.declared.course.Course.TheVariants.{Collects, Borrows, Ends}
use Rattle.world_core.specs.declared.want.Want.{Want}
use Rattle.world_core.specs.declared.want.Want.TheVariants.{Look, Peek, Done}
use Rattle.world_core.specs.Shape.{Shape}
use Rattle.world_core.specs.Scan.{rounds, round, last_of, open_round, course, course_after, wanted, wanted_by, is_done, IsSteady}
use Rattle.world_core.specs.Local.{Scan, Local}
use Rattle.world_core.specs.Event.{Opening, Purpose, For_row, For_view, For_seen, For_nothing, served, given_by, purpose_of, went_on}
use Rattle.world_core.specs.Calls.{IsLocalOf}
use Rattle.world_core.proofs.Bounds.{collects_few}
use Rattle.world_laws.proofs.Bounding.{scans_are_bounded}
use Rattle.row_table.specs.Notes.{given_now}
use Rattle.row_table.proofs.Noting.{last_given-push}
use Rattle.collect_scan.specs.Scanned.{scan_with, local_in_scan, local_stood, most_words, HasScanned, HasTicked}
use Rattle.collect_scan.specs.Turns.{HasTurned}
use Rattle.world_laws.proofs.Lending.{round_lends}

-- A scan that isn't done, and whose words are steady, has taken fewer words than `most_words`.
module _ (n me : ℕ) (taken : List ℕ) (low : me < n) (steady : IsSteady n me taken) where
  few_rounds : (k : ℕ) (c : Course) (words : List ℕ) → course_after n taken k ≡ c
      → is_done (wanted_by c words) ≡ false → k * n ≤ length taken → k ≤ n + 1
  few_rounds k Collects words is goes fits =
      omega (arith, collects_few n me taken low steady k fits is)
  few_rounds zero (Borrows j row) words is goes fits = omega arith
  few_rounds (suc k) (Borrows j row) words is goes fits =
      let lends = round_lends (round n taken 0) (last_of n taken k) (round n taken k)
      (course_after n taken k) j row is in
      omega (arith, collects_few n me taken low steady k (omega arith) lends.was)
  few_rounds k (Ends cut) words is goes fits = absurd cc

  pub unfinished_few : is_done (wanted n taken) ≡ false → length taken < most_words n
  unfinished_few goes =
      let some : 0 < n = omega (arith, low) in
      let fits : rounds n taken * n ≤ length taken = omega arith in
      let ends : length taken < rounds n taken * n + n = omega arith in
      let few : rounds n taken ≤ n + 1 =
      few_rounds (rounds n taken) (course n taken) (open_round n taken) refl goes fits in
      omega (arith, ends, mul-le (rounds n taken) n (n + 1) n few (omega arith))

-- In each local of a reachable world, a scan under way that isn't done has taken fewer words than
-- `most_words`.
pub scanning_few : (s : Shape) (i : ℕ) (l : Local) (scan : Scan) → IsLocalOf s i l
    → l.scan ≡ Some scan → is_done (wanted s.callers scan.taken) ≡ false
    → length scan.taken < most_words s.callers
scanning_few s i l scan (locals, t, low, is) under goes =
    let bounded = scans_are_bounded s locals i scan t low (ap (λ (m : Local). m.scan) is ∙ under) in
    unfinished_few s.callers i scan.taken low bounded.steady goes

given_served : (l : Local) (p : Purpose) (cut : List ℕ) → given_now (served l p cut) ≡ given_now l
given_served l For_row cut = refl
given_served l For_view cut = refl
given_served l For_seen cut = refl
given_served l For_nothing cut = refl

-- After a scan took its last word, and is done with a cut, the local gives this cut as that of its
-- last scan.
given_done : (l : Local) (s : Scan) (cut : List ℕ) → given_now (went_on l s (Done cut)) ≡ Some cut
given_done l s cut =
    given_served (record l { scan = None; cuts = l.cuts ++ given_by s cut ∷ [] })
    (purpose_of l.phase l.staged s) cut ∙ last_given-push l.cuts (given_by s cut)

-- A scan whose caller's local gives no cut after a word isn't done; and one whose caller's local
-- gives a cut is done with that cut (`done_by`).
goes_by : (l : Local) (s : Scan) (w : Want) → given_now (went_on l s w) ≡ None → is_done w ≡ false
goes_by l s (Look j) h = refl
goes_by l s (Peek j row entry) h = refl
goes_by l s (Done cut) h = let never : Some cut ≡ None = sym (given_done l s cut) ∙ h in absurd cc

done_by : (l : Local) (s : Scan) (w : Want) (cut : List ℕ) → given_now (went_on l s w) ≡ Some cut
    → w ≡ Done cut
done_by l s (Look j) cut h = absurd cc
done_by l s (Peek j row entry) cut h = absurd cc
done_by l s (Done other) cut h = let same : Some other ≡ Some cut =
    sym (given_done l s other) ∙ h in cc

stays_by : (l : Local) (s : Scan) (w : Want) → is_done w ≡ false
    → went_on l s w ≡ record l { scan = Some s }
stays_by l s (Look j) h = refl
stays_by l s (Peek j row entry) h = refl
stays_by l s (Done cut) h = absurd cc

module _ (n : ℕ) (before : Local) (region : Region) (opening : Opening) (taken : List ℕ) where
  abbrev here : Local
  here = local_in_scan n before region opening taken

  abbrev scan : Scan
  scan = scan_with before region opening taken

  -- Where the local after the words of a scan gives no cut, the scan isn't done.
  pub stood_goes : given_now (local_stood n before region opening taken) ≡ None
      → is_done (wanted n taken) ≡ false
  stood_goes h = goes_by here scan (wanted n taken) h

  -- Where a scan isn't done, the local after its words is the one during the scan.
  pub stood_stays : is_done (wanted n taken) ≡ false
      → local_stood n before region opening taken ≡ here
  stood_stays goes = stays_by here scan (wanted n taken) goes

  -- Where the local after at most `most_words` words of a scan gives a cut, these words are one
  -- whole scan that ended with this cut, and the counter has risen by their number.
  pub stood_ticked : (cut : List ℕ) (now : Local) (first last : ℕ)
      → given_now (local_stood n before region opening taken) ≡ Some cut
      → length taken ≤ most_words n
      → now ≡ local_stood n before region opening taken → last ≡ first + length taken
      → HasTicked n region opening cut before now first last
  stood_ticked cut now first last h few is ticks =
      let done : wanted n taken ≡ Done cut = done_by here scan (wanted n taken) cut h in
      record {
        scanned =
            record { taken = taken; done = done; few = few; is = is ∙ ap (went_on here scan) done };
        ticks = ticks;
      }

  -- Where the local after at most `most_words` words of a scan gives a cut, these words are one
  -- whole scan that ended with this cut.
  pub stood_scanned : (cut : List ℕ) (now : Local)
      → given_now (local_stood n before region opening taken) ≡ Some cut
      → length taken ≤ most_words n
      → now ≡ local_stood n before region opening taken → HasScanned n region opening cut before now
  stood_scanned cut now h few is = (stood_ticked cut now 0 (0 + length taken) h few is refl).scanned

-- `HasTurned` holds of a turn that took one more word of a scan, within the bound, and that answers
-- the cut which its caller's local then gives, if it gives one.
pub turned_by : (n : ℕ) (before : Local) (region : Region) (opening : Opening) (taken : List ℕ)
    (x : ℕ) (r : Option (List ℕ)) (now : Local)
    → r ≡ given_now (local_stood n before region opening (taken ++ x ∷ []))
    → length (taken ++ x ∷ []) ≤ most_words n
    → (is_done (wanted n (taken ++ x ∷ [])) ≡ false → length (taken ++ x ∷ []) < most_words n)
    → now ≡ local_stood n before region opening (taken ++ x ∷ [])
    → HasTurned n region opening taken r before now
turned_by n before region opening taken x None now e few less is =
    let goes = stood_goes n before region opening (taken ++ x ∷ []) (sym e) in
    (x, is ∙ stood_stays n before region opening (taken ++ x ∷ []) goes, less goes)
turned_by n before region opening taken x (Some cut) now e few less is =
    stood_scanned n before region opening (taken ++ x ∷ []) cut now (sym e) few is
