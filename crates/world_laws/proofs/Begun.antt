-- What a scan under way has known since it began, and what the cut that it gives therefore holds.
use Rattle.std.proofs.Common.{◌≡◌, ◌⊎◌, ℕ, zero, suc, ◌+◌, ◌*◌, ◌<◌, ◌≤◌, Bool, true, false, not, ◌&&◌, ◌==◌, nat_lt, List, [], ◌∷◌, ◌++◌, length, take, Option, Some, None, slice_get, slice_index, refl, sym, ap, ◌∙◌, subst, arith, IsTrue, inl, inr, length-append}
use Rattle.std.proofs.Math.Seq.{take-append_seam}
use Rattle.std.proofs.lemmas.List.{get_or_append_left, get_or_push, take-append-le}
use Rattle.std.proofs.lemmas.Option.{same_Some}
use Rattle.std.proofs.lemmas.Nat.{same_from_place}
use Rattle.std.proofs.lemmas.Bool.{and_parts, eqb-true, ne_eqb, cases_eq, cases_lt, cond_both, eq-eqb}
use Rattle.world_core.specs.declared.region.Region.{Region}
use Rattle.world_core.specs.declared.course.Course.{Course}
use Rattle.world_core.specs.declared.course.Course.TheVariants.{Collects, Borrows, Ends}
use Rattle.world_core.specs.declared.want.Want.{Want}
use Rattle.world_core.specs.declared.want.Want.TheVariants.{Look as Wants_look, Peek as Wants_peek, Done}
use Rattle.world_core.specs.Shape.{Shape}
use Rattle.world_core.specs.Local.{Scan, Given, Looked, Peeked, Local, own_count}
use Rattle.world_core.specs.Scan.{rounds, open_round, course, wanted, wanted_by, is_look, has_ended, IsSteady, AreWanted}
use Rattle.world_core.specs.Event.{Event, Stage, Announce, Object, Look, Peek, Publish, Opening, Begins_none, Begins_scan, Begins_view, is_enabled, may_begin, is_loaded, words_after, local_after, opened, begun, fed, went_on, given_by, with_word, with_look, with_peek, served, purpose_of, Purpose, For_row, For_view, For_seen, For_nothing, is_same_region, is_look_wanted, is_peek_wanted}
use Rattle.world_core.specs.World.{World, Step, local_of, count_of, after, is_possible}
use Rattle.world_core.specs.Agreement.{Agrees}
use Rattle.world_core.specs.Snapshot.{gives_up, keeps_scan}
use Rattle.world_core.proofs.Scans.{open_length, open_lacks}
use Rattle.world_laws.proofs.Each.{Each, each_get}
use Rattle.world_laws.proofs.Endings.{same_region_is, look_is, peek_is}
use Rattle.world_laws.proofs.Low.{IsLowLook, IsLowGiven, IsLowScan, AreLow, opened_low}
use Rattle.world_laws.proofs.Since.{AllHigh, IsHighCut, AreHigh, done_high, word_high, none_taken}
use Rattle.world_laws.proofs.Rising.{none_since, step_high, found_look, found_peek}
use Rattle.world_laws.proofs.Knowing.{Sound, none_asked}
use Rattle.world_laws.proofs.Running.{possible, own_local, other_local}

-- The words that a scan of caller i has taken since it began at a world: none is below the counts
-- of that world, they are steady, and each was wanted.
pub record Taking (s : Shape) (i : ℕ) (from : World) (region : Region)
    (taken : List ℕ) : Type 0 where
  pub high : AreHigh s from region taken
  pub steady : IsSteady s.callers i taken
  pub wants : AreWanted s.callers taken

-- None of the counts that were looked at first, as many as `since` says, is above those of a world.
-- Looked counts are in a list with the newest first.
abbrev pub AreLowBefore : Shape → World → List Looked → ℕ → Type 0
AreLowBefore s from looked since = (p : ℕ) (look : Looked) → slice_get looked p ≡ Some look
    → length looked ≤ p + since → IsLowLook s from look

-- A scan under way of caller i, which began at a world in which the caller had the own count that
-- it still has: what the caller had been given and had looked at then was not above that world's
-- counts, and no word that the scan has taken since is below them.
pub record Begun (s : Shape) (w : World) (i : ℕ) (l : Local) (from : World)
    (scan : Scan) : Type 0 where
  pub all : AllHigh s from w
  pub own : count_of s from scan.region i ≡ own_count l scan.region
  pub prior : Each (IsLowGiven s from) l.cuts
  pub looked : AreLowBefore s from l.looked scan.since
  pub since : scan.since ≡ length (local_of from i).looked
  pub few : scan.since ≤ length l.looked
  pub taking : Taking s i from scan.region scan.taken

-- The scan under way, if there is one, began at some world for which P holds.
abbrev pub IsBegun : Shape → World → ℕ → (World → Type 0) → Local → Option Scan → Type 0
IsBegun s w i P l None = Unit {0}
IsBegun s w i P l (Some scan) = (from : World) × P from × Begun s w i l from scan

-- A scan that began at a world gave a cut, as it took one more word.
pub record Gave (s : Shape) (w : World) (i : ℕ) (cuts : List Given) (m : Local) (o : Option Scan)
    (from : World) : Type 0 where
  pub given : Given
  pub cuts_are : m.cuts ≡ cuts ++ given ∷ []
  pub high : IsHighCut s from given.region given.cut
  pub own : count_of s from given.region i ≡ count_of s w given.region i
  pub prior : Each (IsLowGiven s from) cuts
  pub looked : AreLowBefore s from m.looked given.since
  pub since : given.since ≡ length (local_of from i).looked
  pub few : given.since ≤ length m.looked
  pub scan : Scan
  pub under : o ≡ Some scan
  pub region : given.region ≡ scan.region
  pub word : ℕ
  pub done : wanted s.callers (scan.taken ++ word ∷ []) ≡ Done given.cut
  pub taking : Taking s i from given.region (scan.taken ++ word ∷ [])
  pub none : m.scan ≡ None

-- After an event of a caller that had these cuts, either it has them still, and its scan under way,
-- if there is one, began at a world for which P holds; or a scan that began at such a world gave
-- one cut more.
abbrev pub ScanOutcome : Shape → World → ℕ → (World → Type 0) → List Given → Local
    → Option Scan → Type 0
ScanOutcome s w i P cuts m o = ((m.cuts ≡ cuts) × IsBegun s w i P m m.scan)
    ⊎ ((from : World) × P from × Gave s w i cuts m o from)

-- A place p that is n below t + m n, where t is below n, is k n + t for some k.
place_before : (m t n p : ℕ) → p + n ≡ t + m * n → t < n → (k : ℕ) × (p ≡ k * n + t)
place_before zero t n p h low = absurd (omega (arith, h, low))
place_before (suc k) t n p h low = (k, omega (arith, h))

steady_more : (n me : ℕ) (taken : List ℕ) (x : ℕ) → IsSteady n me taken
    → ((p : ℕ) → p + n ≡ length taken → is_look (wanted n taken) ≡ true → slice_index taken p ≤ x)
    → ((p k : ℕ) → p ≡ k * n + me → p + n ≡ length taken → is_look (wanted n taken) ≡ true
    → x ≡ slice_index taken p)
    → 0 < n → IsSteady n me (taken ++ x ∷ [])
steady_more n me taken x h rises own some =
    record {
      rises = λ p fits look. elim (cases_lt (p + n) (length taken)) [
        | inl old ↦
            let look' : is_look (wanted n (take (p + n) taken)) ≡ true =
            sym (ap (λ (xs : List ℕ). is_look (wanted n xs))
            (take-append-le (p + n) taken (x ∷ []) (omega arith))) ∙ look in
            let up : slice_index taken p ≤ slice_index taken (p + n) = h.rises p old look' in
            omega (
              arith,
              up,
              get_or_append_left taken (x ∷ []) 0 p (omega (arith, old)),
              get_or_append_left taken (x ∷ []) 0 (p + n) old,
            )
        | inr past ↦
            let here : p + n ≡ length taken =
            omega (arith, length-append taken (x ∷ []), past, fits) in
            let look' : is_look (wanted n taken) ≡ true =
            sym (ap (λ (xs : List ℕ). is_look (wanted n xs))
            (ap (λ (m : ℕ). take m (taken ++ x ∷ [])) here ∙ take-append_seam taken (x ∷ [])))
            ∙ look in
            let up : slice_index taken p ≤ x = rises p here look' in
            omega (
              arith,
              up,
              get_or_append_left taken (x ∷ []) 0 p (omega (arith, here, some)),
              get_or_push taken x 0 (p + n) (sym here),
            )
      ];
      own = λ p k at fits look. elim (cases_lt (p + n) (length taken)) [
        | inl old ↦
            let look' : is_look (wanted n (take (p + n) taken)) ≡ true =
            sym (ap (λ (xs : List ℕ). is_look (wanted n xs))
            (take-append-le (p + n) taken (x ∷ []) (omega arith))) ∙ look in
            let same : slice_index taken (p + n) ≡ slice_index taken p = h.own p k at old look' in
            omega (
              arith,
              same,
              get_or_append_left taken (x ∷ []) 0 p (omega (arith, old)),
              get_or_append_left taken (x ∷ []) 0 (p + n) old,
            )
        | inr past ↦
            let here : p + n ≡ length taken =
            omega (arith, length-append taken (x ∷ []), past, fits) in
            let look' : is_look (wanted n taken) ≡ true =
            sym (ap (λ (xs : List ℕ). is_look (wanted n xs))
            (ap (λ (m : ℕ). take m (taken ++ x ∷ [])) here ∙ take-append_seam taken (x ∷ [])))
            ∙ look in
            let same : x ≡ slice_index taken p = own p k at here look' in
            omega (
              arith,
              same,
              get_or_append_left taken (x ∷ []) 0 p (omega (arith, here, some)),
              get_or_push taken x 0 (p + n) (sym here),
            )
      ];
    }

wants_more : (n : ℕ) (taken : List ℕ) (x : ℕ) → AreWanted n taken
    → has_ended (course n taken) ≡ false → AreWanted n (taken ++ x ∷ [])
wants_more n taken x h going p fits = elim (cases_lt p (length taken)) [
  | inl old ↦ ap (λ (xs : List ℕ). has_ended (course n xs))
      (take-append-le p taken (x ∷ []) (omega arith)) ∙ h p old
  | inr past ↦
      let here : p ≡ length taken = omega (arith, length-append taken (x ∷ []), past, fits) in
      ap (λ (xs : List ℕ). has_ended (course n xs))
      (ap (λ (m : ℕ). take m (taken ++ x ∷ [])) here ∙ take-append_seam taken (x ∷ [])) ∙ going
]

steady_none : (n me : ℕ) → IsSteady n me []
steady_none n me = record {
  rises = λ p fits look. absurd (omega arith);
  own = λ p k at fits look. absurd (omega arith);
}

-- What a further word of a scan is: where a look was wanted, the count of the caller that the
-- collect lacks.
pub record Fits (s : Shape) (w : World) (region : Region) (taken : List ℕ) (x : ℕ) : Type 0 where
  pub looks : is_look (wanted s.callers taken) ≡ true
      → x ≡ count_of s w region (length (open_round s.callers taken))
  pub going : has_ended (course s.callers taken) ≡ false

is_look_by : (c : Course) (words : List ℕ) (j k : ℕ) → c ≡ Borrows j k
    → is_look (wanted_by c words) ≡ true → ⊥
is_look_by Collects words j k is h = cc
is_look_by (Borrows a b) words j k is h = cc
is_look_by (Ends cut) words j k is h = cc

taking_more : (s : Shape) (w : World) (i : ℕ) (from : World) (region : Region) (taken : List ℕ)
    (x : ℕ) → i < s.callers → Taking s i from region taken → AreLow s w region taken
    → count_of s from region i ≡ count_of s w region i → Fits s w region taken x
    → count_of s from region (length (open_round s.callers taken)) ≤ x
    → Taking s i from region (taken ++ x ∷ [])
taking_more s w i from region taken x fits h low own word above =
    let some : 0 < s.callers = omega (arith, fits) in
    let n : ℕ = s.callers in
    let lacks : length (open_round n taken) < n = open_lacks n taken 0 some in
    let long : length (open_round n taken) + rounds n taken * n ≡ length taken =
    open_length n taken 0 some in
    record {
      high = word_high s from some region taken x h.high above;
      steady = steady_more n i taken x h.steady
          (λ p here look.
          let at =
          place_before (rounds n taken) (length (open_round n taken)) n p (here ∙ sym long) lacks in
          let bound : slice_index taken (at.0 * n + length (open_round n taken))
          ≤ count_of s w region (length (open_round n taken)) =
          low at.0 (length (open_round n taken)) lacks (omega (arith, at.1, here, some)) in
          let there : slice_index taken p ≡ slice_index taken
          (at.0 * n + length (open_round n taken)) = ap (slice_index taken) at.1 in
          omega (arith, bound, there, word.looks look))
          (λ p k at here look.
          let same = same_from_place (suc k) i (rounds n taken)
          (length (open_round n taken)) n fits lacks (omega (arith, at, here, long)) in
          let up : count_of s from region i ≤ slice_index taken (k * n + i) =
          h.high k i fits (omega (arith, at, here, some)) in
          let down : slice_index taken (k * n + i) ≤ count_of s w region i =
          low k i fits (omega (arith, at, here, some)) in
          let there : slice_index taken p ≡ slice_index taken (k * n + i) =
          ap (slice_index taken) at in
          let now : count_of s w region (length (open_round n taken)) ≡ count_of s w region i =
          ap (count_of s w region) (sym same.1) in
          omega (arith, up, down, there, own, now, word.looks look)) some;
      wants = wants_more n taken x h.wants word.going;
    }

-- serving a purpose leaves the cuts and the looked counts of a local as they are
served_cuts : (l : Local) (p : Purpose) (cut : List ℕ) → (served l p cut).cuts ≡ l.cuts
served_cuts l For_row cut = refl
served_cuts l For_view cut = refl
served_cuts l For_seen cut = refl
served_cuts l For_nothing cut = refl

pub served_looked : (l : Local) (p : Purpose) (cut : List ℕ) → (served l p cut).looked ≡ l.looked
served_looked l For_row cut = refl
served_looked l For_view cut = refl
served_looked l For_seen cut = refl
served_looked l For_nothing cut = refl

pub served_scan : (l : Local) (p : Purpose) (cut : List ℕ) → (served l p cut).scan ≡ l.scan
served_scan l For_row cut = refl
served_scan l For_view cut = refl
served_scan l For_seen cut = refl
served_scan l For_nothing cut = refl

-- a local that differs in what no scan under way knows of
begun_like : (s : Shape) (w : World) (i : ℕ) (P : World → Type 0) (l m : Local) (o : Option Scan)
    → m.cuts ≡ l.cuts → m.looked ≡ l.looked
    → ((r : Region) → own_count l r ≡ own_count m r) → IsBegun s w i P l o → IsBegun s w i P m o
begun_like s w i P l m None cuts looked counts h = tt
begun_like s w i P l m (Some scan) cuts looked counts (from, kind, h) = (
  from,
  kind,
  record {
    all = h.all;
    own = h.own ∙ counts scan.region;
    prior = subst (λ (gs : List Given). Each (IsLowGiven s from) gs) (sym cuts) h.prior;
    looked = subst (λ (xs : List Looked). AreLowBefore s from xs scan.since) (sym looked) h.looked;
    since = h.since;
    few = subst (λ (xs : List Looked). scan.since ≤ length xs) (sym looked) h.few;
    taking = h.taking;
  },
)

-- one more look leaves the counts that were looked at first low
look_before : (s : Shape) (from : World) (looked : List Looked) (since : ℕ) (look : Looked) → since
    ≤ length looked → AreLowBefore s from looked since → AreLowBefore s from (look ∷ looked) since
look_before s from looked since look few h zero other is late = absurd (omega (arith, few, late))
look_before s from looked since look few h (suc p) other is late =
    h p other is (omega (arith, late))

begun_look : (s : Shape) (w : World) (i : ℕ) (P : World → Type 0) (l : Local) (look : Looked)
    (o : Option Scan) → IsBegun s w i P l o → IsBegun s w i P (with_look l look) o
begun_look s w i P l look None h = tt
begun_look s w i P l look (Some scan) (from, kind, h) = (
  from,
  kind,
  record {
    all = h.all;
    own = h.own;
    prior = h.prior;
    looked = look_before s from l.looked scan.since look h.few h.looked;
    since = h.since;
    few = omega (arith, h.few);
    taking = h.taking;
  },
)

-- A local as its scan under way takes a word.
module _ (s : Shape) (w : World) (i : ℕ) (low : i < s.callers) (P : World → Type 0) (l : Local)
    (counts : (r : Region) → count_of s w r i ≡ own_count l r) where
  module _ (scan : Scan) (x : ℕ) (from : World) (h : Begun s w i l from (with_word scan x)) where
    gave : (p : Purpose) (cut : List ℕ) → wanted s.callers (scan.taken ++ x ∷ []) ≡ Done cut
        → Gave s w i l.cuts
        (served (record l { scan = None; cuts = l.cuts ++ given_by (with_word scan x) cut ∷ [] }) p
        cut) (Some scan) from
    gave p cut done =
        let ended : Local =
        record l { scan = None; cuts = l.cuts ++ given_by (with_word scan x) cut ∷ [] } in
        record {
          given = given_by (with_word scan x) cut;
          cuts_are = served_cuts ended p cut;
          high = done_high s from (omega (arith, low)) scan.region
              (scan.taken ++ x ∷ []) cut h.taking.high done;
          own = h.own ∙ sym (counts scan.region);
          prior = h.prior;
          looked = subst (λ (xs : List Looked). AreLowBefore s from xs scan.since)
              (sym (served_looked ended p cut)) h.looked;
          since = h.since;
          few = subst (λ (xs : List Looked). scan.since ≤ length xs)
              (sym (served_looked ended p cut)) h.few;
          scan = scan;
          under = refl;
          region = refl;
          word = x;
          done = done;
          taking = h.taking;
          none = served_scan ended p cut;
        }

    went_on_outcome : (want : Want) → P from → wanted s.callers (scan.taken ++ x ∷ []) ≡ want
        → ScanOutcome s w i P l.cuts (went_on l (with_word scan x) want) (Some scan)
    went_on_outcome (Done cut) kind done =
        inr (from, kind, gave (purpose_of l.phase l.staged (with_word scan x)) cut done)
    went_on_outcome (Wants_look j) kind done =
        inl (
          refl,
          begun_like s w i P l (record l { scan = Some (with_word scan x) })
              (Some (with_word scan x)) refl refl (λ r. refl) (from, kind, h),
        )
    went_on_outcome (Wants_peek j k e) kind done =
        inl (
          refl,
          begun_like s w i P l (record l { scan = Some (with_word scan x) })
              (Some (with_word scan x)) refl refl (λ r. refl) (from, kind, h),
        )

  fed_outcome : (o : Option Scan) (q : Region) (is_it : Want → Bool) (x : ℕ) → IsLowScan s w o
      → IsBegun s w i P l o → IsBegun s w i P l l.scan
      → ((taken : List ℕ) → is_it (wanted s.callers taken) ≡ true → Fits s w q taken x)
      → ((from : World) → AllHigh s from w → (taken : List ℕ) → AreHigh s from q taken
      → is_it (wanted s.callers taken) ≡ true
      → count_of s from q (length (open_round s.callers taken)) ≤ x)
      → ScanOutcome s w i P l.cuts (fed s.callers l o q is_it x) o
  fed_outcome None q is_it x words h kept fits above = inl (refl, kept)
  fed_outcome (Some scan) q is_it x words (from, kind, h) kept fits above =
      cond_both (is_same_region scan.region q && is_it (wanted s.callers scan.taken))
      (went_on l (with_word scan x) (wanted s.callers (with_word scan x).taken)) l
      (λ (m : Local). ScanOutcome s w i P l.cuts m (Some scan))
      (λ e.
      let parts =
      and_parts (is_same_region scan.region q) (is_it (wanted s.callers scan.taken)) e in
      let region : scan.region ≡ q = same_region_is scan.region q parts.0 in
      let word : Fits s w scan.region scan.taken x =
      subst (λ (r : Region). Fits s w r scan.taken x) (sym region) (fits scan.taken parts.1) in
      let bound : count_of s from scan.region (length (open_round s.callers scan.taken)) ≤ x =
      subst (λ (r : Region). count_of s from r (length (open_round s.callers scan.taken)) ≤ x)
      (sym region)
      (above from h.all scan.taken
      (subst (λ (r : Region). AreHigh s from r scan.taken) region h.taking.high) parts.1) in
      let more : Begun s w i l from (with_word scan x) =
      record {
        all = h.all;
        own = h.own;
        prior = h.prior;
        looked = h.looked;
        since = h.since;
        few = h.few;
        taking = taking_more s w i from scan.region scan.taken x low h.taking words
            (h.own ∙ sym (counts scan.region)) word bound;
      } in
      went_on_outcome scan x from more (wanted s.callers (with_word scan x).taken) kind refl)
      (λ _. inl (refl, kept))

-- The scan that an event finds under way, or begins.
abbrev pub scan_at : Local → Event → Option Scan
scan_at l (Look q j x o) = (opened l q o).scan
scan_at l Announce = None
scan_at l Publish = None
scan_at l _ = l.scan

pub quiet_scan : (l : Local) (e : Event) → gives_up e ≡ false → scan_at l e ≡ l.scan
quiet_scan l (Stage q t x) h = refl
quiet_scan l Announce h = absurd cc
quiet_scan l (Object o) h = refl
quiet_scan l (Look q j x Begins_none) h = refl
quiet_scan l (Look q j x Begins_scan) h = absurd cc
quiet_scan l (Look q j x (Begins_view reply)) h = absurd cc
quiet_scan l (Peek q j k t x) h = refl
quiet_scan l Publish h = absurd cc

-- a scan that the event begins has taken no word yet
loud_scan : (l : Local) (e : Event) → gives_up e ≡ true → (scan : Scan) → scan_at l e ≡ Some scan
    → scan.taken ≡ []
loud_scan l (Stage q t x) h scan is = absurd cc
loud_scan l Announce h scan is = absurd cc
loud_scan l (Object o) h scan is = absurd cc
loud_scan l (Look q j x Begins_none) h scan is = absurd cc
loud_scan l (Look q j x Begins_scan) h scan is =
    ap (λ (c : Scan). c.taken) (sym (same_Some (begun l q false) scan is))
loud_scan l (Look q j x (Begins_view reply)) h scan is =
    ap (λ (c : Scan). c.taken) (sym (same_Some (begun l q true) scan is))
loud_scan l (Peek q j k t x) h scan is = absurd cc
loud_scan l Publish h scan is = absurd cc

opened_cuts : (l : Local) (q : Region) (o : Opening) → (opened l q o).cuts ≡ l.cuts
opened_cuts l q Begins_none = refl
opened_cuts l q Begins_scan = refl
opened_cuts l q (Begins_view reply) = refl

outcome_of : (s : Shape) (w : World) (i : ℕ) (P : World → Type 0) (cuts : List Given) (m : Local)
    (o : Option Scan) → (more : List Given) → more ≡ cuts
    → ScanOutcome s w i P more m o → ScanOutcome s w i P cuts m o
outcome_of s w i P cuts m o more same h =
    subst (λ (gs : List Given). ScanOutcome s w i P gs m o) same h

opened_own : (l : Local) (q : Region) (o : Opening) (r : Region)
    → own_count l r ≡ own_count (opened l q o) r
opened_own l q Begins_none r = refl
opened_own l q Begins_scan r = refl
opened_own l q (Begins_view reply) r = refl

-- only a look or a peek gives a cut, and neither changes a word
pub more_cuts : (gs : List Given) (g : Given) → gs ≡ gs ++ g ∷ [] → ⊥
more_cuts gs g h = let longer : length gs ≡ length (gs ++ g ∷ []) = ap length h in
    omega (arith, longer, length-append gs (g ∷ []))

words_still : (s : Shape) (me : ℕ) (l : Local) (words : List ℕ) (e : Event) (g : Given)
    → (local_after s.callers l e).cuts ≡ l.cuts ++ g ∷ [] → words_after s me l words e ≡ words
words_still s me l words (Stage q t x) g h = absurd (more_cuts l.cuts g h)
words_still s me l words Announce g h = absurd (more_cuts l.cuts g h)
words_still s me l words (Object o) g h = absurd (more_cuts l.cuts g h)
words_still s me l words (Look q j x o) g h = refl
words_still s me l words (Peek q j k t x) g h = refl
words_still s me l words Publish g h = absurd (more_cuts l.cuts g h)

-- The caller that makes the step.
module _ (s : Shape) (w : World) (sound : Sound s w) (me : ℕ) (low : me < s.callers)
    (P : World → Type 0) where
  abbrev mine : Local
  mine = local_of w me

  agrees : Agrees s w.words me mine
  agrees = sound.kept.agree me low

  some : 0 < s.callers
  some = omega (arith, low)

  -- a scan that begins now
  begins_now : (q : Region) (is_view : Bool) → P w
      → IsBegun s w me P mine (Some (begun mine q is_view))
  begins_now q is_view kind = (
    w,
    kind,
    record {
      all = none_since s w sound;
      own = agrees.counts q;
      prior = (sound.low me low).cuts;
      looked = λ p look is late.
          each_get (IsLowLook s w) mine.looked p look (sound.low me low).looked is;
      since = refl;
      few = omega arith;
      taking = record {
        high = none_taken s w some q;
        steady = steady_none s.callers me;
        wants = λ p below. absurd (omega (arith, below));
      };
    },
  )

  opened_begun : (q : Region) (j x : ℕ) (o : Opening)
      → (gives_up (Look q j x o) ≡ false → IsBegun s w me P mine mine.scan)
      → (gives_up (Look q j x o) ≡ true → P w)
      → IsBegun s w me P (opened mine q o) (opened mine q o).scan
  opened_begun q j x Begins_none old new = old refl
  opened_begun q j x Begins_scan old new =
      begun_like s w me P mine (opened mine q Begins_scan) (Some (begun mine q false)) refl refl
      (λ r. refl) (begins_now q false (new refl))
  opened_begun q j x (Begins_view reply) old new =
      begun_like s w me P mine (opened mine q (Begins_view reply))
      (Some (begun mine q true)) refl refl (λ r. refl) (begins_now q true (new refl))

  own_outcome : (e : Event) → IsTrue (is_enabled s me mine e) → IsTrue (is_loaded s w.words e)
      → (gives_up e ≡ false → IsBegun s w me P mine mine.scan) → (gives_up e ≡ true → P w)
      → ScanOutcome s w me P mine.cuts (local_after s.callers mine e) (scan_at mine e)
  own_outcome (Stage q t x) may loaded old new =
      inl (
        refl,
        begun_like s w me P mine (local_after s.callers mine (Stage q t x)) mine.scan refl refl
            (λ r. refl) (old refl),
      )
  own_outcome (Object o) may loaded old new =
      inl (
        refl,
        begun_like s w me P mine (local_after s.callers mine (Object o)) mine.scan refl refl
            (λ r. refl) (old refl),
      )
  own_outcome Announce may loaded old new = inl (refl, tt)
  own_outcome Publish may loaded old new = inl (refl, tt)
  own_outcome (Look q j x o) may loaded old new =
      let begins = (and_parts (nat_lt j s.callers) (may_begin s me mine q j o) may).1 in
      let look : Looked = record { region = q; caller = j; count = x } in
      let saw : Local = with_look (opened mine q o) look in
      let here : IsBegun s w me P saw (opened mine q o).scan = begun_look s w me P
      (opened mine q o) look (opened mine q o).scan (opened_begun q j x o old new) in
      let found : x ≡ count_of s w q j = eqb-true x (count_of s w q j) loaded in
      outcome_of s w me P mine.cuts (local_after s.callers mine (Look q j x o))
      (opened mine q o).scan (opened mine q o).cuts (opened_cuts mine q o)
      (fed_outcome s w me low P saw (λ r. agrees.counts r ∙ opened_own mine q o r)
      (opened mine q o).scan q (is_look_wanted j) x
      (opened_low s w some mine q o (none_asked s w sound.kept sound.low me low q j o begins)
      (sound.low me low)).scan here here
      (λ taken wants.
      let at = look_is (course s.callers taken) (open_round s.callers taken) j wants in
      let same : x ≡ count_of s w q (length (open_round s.callers taken)) =
      found ∙ ap (count_of s w q) at.1 in
      record { looks = λ h. same; going = ap has_ended at.0 })
      (λ from all. found_look s w sound me low from all q j x o loaded))
  own_outcome (Peek q j k t x) may loaded old new =
      let peek : Peeked = record { region = q; caller = j; row = k; place = t; word = x } in
      let here : IsBegun s w me P (with_peek mine peek) mine.scan =
      begun_like s w me P mine (with_peek mine peek) mine.scan refl refl (λ r. refl) (old refl) in
      fed_outcome s w me low P (with_peek mine peek) (λ r. agrees.counts r) mine.scan q
      (is_peek_wanted s.callers q j k t) x (sound.low me low).scan here here
      (λ taken wants.
      let at =
      peek_is s.callers q j k t (course s.callers taken) (open_round s.callers taken) wants in
      record {
        looks = λ h. absurd
            (is_look_by (course s.callers taken) (open_round s.callers taken) j k at.borrows h);
        going = ap has_ended at.borrows;
      })
      (λ from all. found_peek s w sound me low from all q j k t x may loaded)

begun_on : (s : Shape) (w : World) (step : Step) (i : ℕ) (P : World → Type 0) (l : Local)
    (o : Option Scan) → Sound s w → IsTrue (is_possible s w step)
    → IsBegun s w i P l o → IsBegun s (after s w step) i P l o
begun_on s w step i P l None sound may h = tt
begun_on s w step i P l (Some scan) sound may (from, kind, h) = (
  from,
  kind,
  record {
    all = step_high s from w step sound may h.all;
    own = h.own;
    prior = h.prior;
    looked = h.looked;
    since = h.since;
    few = h.few;
    taking = h.taking;
  },
)

-- A step at which the scan of caller i gave a cut: it changes no word.
pub record StepGave (s : Shape) (w : World) (step : Step) (i : ℕ) (from : World) : Type 0 where
  pub under : Option Scan
  pub quiet : keeps_scan i step ≡ true → under ≡ (local_of w i).scan
  pub loud : keeps_scan i step ≡ false → (scan : Scan) → under ≡ Some scan → scan.taken ≡ []
  pub gave : Gave s w i (local_of w i).cuts (local_of (after s w step) i) under from
  pub words : (after s w step).words ≡ w.words

abbrev pub AfterStep : Shape → World → Step → ℕ → (World → Type 0) → Type 0
AfterStep s w step i P =
    IsBegun s (after s w step) i P (local_of (after s w step) i) (local_of (after s w step) i).scan
    × (((local_of (after s w step) i).cuts ≡ (local_of w i).cuts)
    ⊎ ((from : World) × P from × StepGave s w step i from))

pub keeps_of : (a g : Bool) → g ≡ false → not (a && g) ≡ true
keeps_of true g h = ap not h
keeps_of false g h = refl

cond_self : (n : ℕ) → (n == n) ≡ true
cond_self n = eq-eqb n n refl

pub gives_of : (a g : Bool) → a ≡ true → g ≡ true → not (a && g) ≡ false
gives_of a g h h' = ap (λ (b : Bool). not (b && g)) h ∙ ap not h'

loud_of : (a g : Bool) → not (a && g) ≡ false → g ≡ true
loud_of true true h = refl
loud_of true false h = absurd cc
loud_of false g h = absurd cc

quiet_of : (a g : Bool) → a ≡ true → not (a && g) ≡ true → g ≡ false
quiet_of a true h k = let never : not (true && true) ≡ true =
    sym (ap (λ (b : Bool). not (b && true)) h) ∙ k in absurd cc
quiet_of a false h k = refl

pub others_of : (a g : Bool) → a ≡ false → not (a && g) ≡ true
others_of a g h = ap (λ (b : Bool). not (b && g)) h

module _ (s : Shape) (w : World) (step : Step) (P : World → Type 0) (sound : Sound s w)
    (may : IsTrue (is_possible s w step)) where
  abbrev v : World
  v = after s w step

  gone_on : (i : ℕ) (o : Option Scan) → (keeps_scan i step ≡ true → o ≡ (local_of w i).scan)
      → (keeps_scan i step ≡ false → (scan : Scan) → o ≡ Some scan → scan.taken ≡ [])
      → ((g : Given) → (local_of v i).cuts ≡ (local_of w i).cuts ++ g ∷ [] → v.words ≡ w.words)
      → ScanOutcome s w i P (local_of w i).cuts (local_of v i) o → AfterStep s w step i P
  gone_on i o quiet loud still (inl (same, h)) =
      (begun_on s w step i P (local_of v i) (local_of v i).scan sound may h, inl same)
  gone_on i o quiet loud still (inr (from, kind, g)) = (
    subst (λ (c : Option Scan). IsBegun s v i P (local_of v i) c) (sym g.none) tt,
    inr (
      from,
      kind,
      record { under = o; quiet = quiet; loud = loud; gave = g; words = still g.given g.cuts_are },
    ),
  )

  own_step : step.who < s.callers → (keeps_scan step.who step ≡ true
      → IsBegun s w step.who P (local_of w step.who) (local_of w step.who).scan)
      → (keeps_scan step.who step ≡ false → P w) → AfterStep s w step step.who P
  own_step low old new =
      let p = possible s w step may in
      let me : ℕ = step.who in
      let here : (me == me) ≡ true = (let h : (me == me) ≡ true = cond_self me in h) in
      let is : local_of v me ≡ local_after s.callers (local_of w me) step.event =
      own_local s w step sound.kept.locals_long low in
      gone_on me (scan_at (local_of w me) step.event)
      (λ keeps.
      quiet_scan (local_of w me) step.event (quiet_of (me == me) (gives_up step.event) here keeps))
      (λ stops.
      loud_scan (local_of w me) step.event (loud_of (me == me) (gives_up step.event) stops))
      (λ g more. words_still s me (local_of w me) w.words step.event g
      (sym (ap (λ (l : Local). l.cuts) is) ∙ more))
      (subst
      (λ (l : Local).
      ScanOutcome s w me P (local_of w me).cuts l (scan_at (local_of w me) step.event))
      (sym is)
      (own_outcome s w sound me low P step.event p.allowed p.loaded
      (λ quiet. old (keeps_of (me == me) (gives_up step.event) quiet))
      (λ up. new (gives_of (me == me) (gives_up step.event) here up))))

  pub step_outcome : (i : ℕ) → i < s.callers
      → (keeps_scan i step ≡ true → IsBegun s w i P (local_of w i) (local_of w i).scan)
      → (keeps_scan i step ≡ false → P w)
      → AfterStep s w step i P
  step_outcome i low old new = elim (cases_eq i step.who) [
    | inl here ↦
        subst (λ (j : ℕ). AfterStep s w step j P) (sym here)
        (own_step (subst (λ (j : ℕ). j < s.callers) here low)
        (subst (λ (j : ℕ). keeps_scan j step ≡ true
        → IsBegun s w j P (local_of w j) (local_of w j).scan) here old)
        (subst (λ (j : ℕ). keeps_scan j step ≡ false → P w) here new))
    | inr away ↦
        let same : local_of v i ≡ local_of w i = other_local s w step i away in
        let keeps : keeps_scan i step ≡ true =
        others_of (step.who == i) (gives_up step.event) (ne_eqb step.who i (λ e. away (sym e))) in (
          subst (λ (l : Local). IsBegun s v i P l l.scan) (sym same)
              (begun_on s w step i P (local_of w i) (local_of w i).scan sound may (old keeps)),
          inl (ap (λ (l : Local). l.cuts) same),
        )
  ]
