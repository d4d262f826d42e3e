-- What a view holds, by the order of a run.
use Rattle.std.proofs.Common.{◌≡◌, ◌⊎◌, ℕ, ◌<◌, ◌≤◌, Bool, true, false, ◌&&◌, ◌==◌, if◌then◌else◌, nat_lt, List, [], ◌∷◌, ◌++◌, length, Option, Some, None, slice_index, slice_index_or, refl, sym, ap, ◌∙◌, subst, arith, IsTrue, inl, inr, length-append}
use Rattle.std.proofs.lemmas.List.{get_or_append_left, get_or_push}
use Rattle.std.proofs.lemmas.Option.{same_Some}
use Rattle.std.proofs.lemmas.Bool.{and_parts, cases_eq, cond_both, not-true}
use Rattle.world_core.specs.declared.region.Region.{Region}
use Rattle.world_core.specs.declared.region.Region.TheVariants.{N, M}
use Rattle.world_core.specs.declared.want.Want.{Want}
use Rattle.world_core.specs.declared.want.Want.TheVariants.{Look as Wants_look, Peek as Wants_peek, Done}
use Rattle.world_core.specs.Shape.{Shape}
use Rattle.world_core.specs.Local.{Phase, Viewing, Scan, Looked, Peeked, Local}
use Rattle.world_core.specs.Scan.{open_round, wanted}
use Rattle.world_core.specs.Event.{Event, Stage, Announce, Object, Look, Peek, Publish, Opening, Begins_none, Begins_scan, Begins_view, is_enabled, may_begin, is_loaded, local_after, opened, begun, fed, went_on, given_by, with_word, with_look, with_peek, served, purpose_of, Purpose, For_row, For_view, For_seen, For_nothing, is_staging, is_asking, is_view_under_way, is_same_region, is_look_wanted, is_peek_wanted}
use Rattle.world_core.specs.World.{World, Step, start, local_of, count_of, after, is_possible, after_all, are_possible, end_of}
use Rattle.world_laws.specs.Views.{return_of, ViewsHoldEarlier, ViewsHoldNoLater}
use Rattle.world_laws.proofs.Each.{each_at}
use Rattle.world_laws.proofs.Endings.{same_region_is}
use Rattle.world_laws.proofs.Rising.{none_since, step_high, found_look, found_peek}
use Rattle.world_laws.proofs.Since.{AllHigh, IsHighCut, AreHigh, done_high, word_high, none_taken}
use Rattle.world_laws.proofs.Knowing.{Sound, sound_after, start_sound, steps_sound}
use Rattle.world_laws.proofs.Low.{IsLowCut}
use Rattle.world_laws.proofs.Running.{possible, own_local, other_local, goes_on, are_possible-append}

-- An event leaves each view as it is.
KeepsViews : Local → Local → Type 0
KeepsViews l m = (k : ℕ) → k < length l.views → (k < length m.views)
    × (slice_index_or m.views k [] ≡ slice_index_or l.views k [])

same_views : (l m : Local) → m.views ≡ l.views → KeepsViews l m
unfolding KeepsViews
same_views l m same k below = (
  subst (λ (vs : List (List ℕ)). k < length vs) (sym same) below,
  ap (λ (vs : List (List ℕ)). slice_index_or vs k []) same,
)

served_views : (l : Local) (p : Purpose) (cut : List ℕ) → KeepsViews l (served l p cut)
unfolding KeepsViews
served_views l For_row cut k below = (below, refl)
served_views l For_seen cut k below = (below, refl)
served_views l For_nothing cut k below = (below, refl)
served_views l For_view cut k below = (
  omega (arith, below, length-append l.views (cut ∷ [])),
  get_or_append_left l.views (cut ∷ []) [] k below,
)

went_on_views : (l : Local) (scan : Scan) (want : Want) → KeepsViews l (went_on l scan want)
unfolding KeepsViews
went_on_views l scan (Done cut) k below =
    served_views (record l { scan = None; cuts = l.cuts ++ given_by scan cut ∷ [] })
    (purpose_of l.phase l.staged scan) cut k below
went_on_views l scan (Wants_look i) k below = (below, refl)
went_on_views l scan (Wants_peek i row e) k below = (below, refl)

fed_views : (n : ℕ) (l : Local) (o : Option Scan) (q : Region) (is_it : Want → Bool) (x : ℕ)
    → KeepsViews l (fed n l o q is_it x)
fed_views n l None q is_it x = same_views l l refl
fed_views n l (Some scan) q is_it x =
    cond_both (is_same_region scan.region q && is_it (wanted n scan.taken))
    (went_on l (with_word scan x) (wanted n (with_word scan x).taken)) l
    (λ (m : Local). KeepsViews l m)
    (λ _. went_on_views l (with_word scan x) (wanted n (with_word scan x).taken))
    (λ _. same_views l l refl)

opened_views : (l : Local) (q : Region) (o : Opening) → (opened l q o).views ≡ l.views
opened_views l q Begins_none = refl
opened_views l q Begins_scan = refl
opened_views l q (Begins_view reply) = refl

views_kept : (n : ℕ) (l : Local) (e : Event) → KeepsViews l (local_after n l e)
unfolding KeepsViews
views_kept n l (Stage q t x) k below = (below, refl)
views_kept n l Announce k below = (below, refl)
views_kept n l Publish k below = (below, refl)
views_kept n l (Object o) k below = (below, refl)
views_kept n l (Peek q j row t x) k below =
    fed_views n (with_peek l (record { region = q; caller = j; row = row; place = t; word = x }))
    l.scan q (is_peek_wanted n q j row t) x k below
views_kept n l (Look q j x o) k below =
    let same = opened_views l q o in
    let there : k < length (opened l q o).views =
    subst (λ (vs : List (List ℕ)). k < length vs) (sym same) below in
    let on = fed_views n (with_look (opened l q o) (record { region = q; caller = j; count = x }))
    (opened l q o).scan q (is_look_wanted j) x k there in
    (on.0, on.1 ∙ ap (λ (vs : List (List ℕ)). slice_index_or vs k []) same)

step_views : (s : Shape) (w : World) (step : Step) (i : ℕ) → Sound s w
    → IsTrue (is_possible s w step) → KeepsViews (local_of w i) (local_of (after s w step) i)
step_views s w step i sound may =
    let p = possible s w step may in
    elim (cases_eq i step.who) [
      | inl here ↦
          subst (λ (j : ℕ). KeepsViews (local_of w j) (local_of (after s w step) j)) (sym here)
          (subst (λ (l : Local). KeepsViews (local_of w step.who) l)
          (sym (own_local s w step sound.kept.locals_long p.caller))
          (views_kept s.callers (local_of w step.who) step.event))
      | inr away ↦ subst (λ (l : Local). KeepsViews (local_of w i) l)
          (sym (other_local s w step i away)) (same_views (local_of w i) (local_of w i) refl)
    ]

steps_views : (s : Shape) (w : World) (steps : List Step) (i : ℕ) → Sound s w
    → IsTrue (are_possible s w steps) → KeepsViews (local_of w i) (local_of (after_all s w steps) i)
unfolding KeepsViews
steps_views s w [] i sound may k below = (below, refl)
steps_views s w (step ∷ steps) i sound may k below =
    let parts = and_parts (is_possible s w step) (are_possible s (after s w step) steps) may in
    let first = step_views s w step i sound parts.0 k below in
    let rest =
    steps_views s (after s w step) steps i (sound_after s w step sound parts.0) parts.1 k first.0 in
    (rest.0, rest.1 ∙ first.1)

run_sound : (s : Shape) (steps : List Step) → IsTrue (are_possible s (start s) steps)
    → Sound s (end_of s steps)
run_sound s steps run = steps_sound s (start s) steps (start_sound s) run

prefix_runs : (s : Shape) (before later : List Step)
    → IsTrue (are_possible s (start s) (before ++ later)) → IsTrue (are_possible s (start s) before)
prefix_runs s before later run =
    (and_parts (are_possible s (start s) before) (are_possible s (end_of s before) later)
    (sym (are_possible-append s (start s) before later) ∙ run)).0

pub views_hold_no_later : ViewsHoldNoLater
unfolding KeepsViews
views_hold_no_later s before later who k j run low fits below =
    let on = goes_on s before later run in
    let sound = run_sound s before (prefix_runs s before later run) in
    let kept = steps_views s (end_of s before) later who sound on.may k below in
    let entry : IsLowCut s (end_of s before) N
    (slice_index_or (local_of (end_of s before) who).views k []) =
    each_at (IsLowCut s (end_of s before) N)
    (local_of (end_of s before) who).views k [] (sound.low who low).views below in
    let bound = entry.low j fits in
    let same : slice_index (slice_index_or (local_of (end_of s (before ++ later)) who).views k []) j
    ≡ slice_index (slice_index_or (local_of (end_of s before) who).views k []) j =
    ap (λ (v : World). slice_index (slice_index_or (local_of v who).views k []) j) on.at
    ∙ ap (λ (c : List ℕ). slice_index c j) kept.1 in
    omega (arith, bound, same)

-- The view of call k, of a caller that returned at some world, is being scanned, and no word of its
-- scan is below the counts of that world.
record Waiting (s : Shape) (from : World) (k : ℕ) (l : Local) : Type 0 where
  phase : l.phase ≡ Viewing
  number : length l.views ≡ k
  scan : Scan
  under : l.scan ≡ Some scan
  fits : (scan.is_view ≡ true) × (scan.region ≡ N)
  high : AreHigh s from N scan.taken

abbrev HasHighView : Shape → World → ℕ → Local → Type 0
HasHighView s from k l = (k < length l.views) × IsHighCut s from N (slice_index_or l.views k [])

abbrev Waits : Shape → World → ℕ → Local → Type 0
Waits s from k l = Waiting s from k l ⊎ HasHighView s from k l

module _ (s : Shape) (from : World) (k : ℕ) (some : 0 < s.callers) where
  went_on_waits : (l : Local) (scan : Scan) (want : Want) → l.phase ≡ Viewing → length l.views ≡ k
      → (scan.is_view ≡ true) × (scan.region ≡ N)
      → AreHigh s from N scan.taken → wanted s.callers scan.taken ≡ want
      → Waits s from k (went_on l scan want)
  went_on_waits l scan (Wants_look i) phase number fits high done =
      inl (record {
        phase = phase;
        number = number;
        scan = scan;
        under = refl;
        fits = fits;
        high = high;
      })
  went_on_waits l scan (Wants_peek i row e) phase number fits high done =
      inl (record {
        phase = phase;
        number = number;
        scan = scan;
        under = refl;
        fits = fits;
        high = high;
      })
  went_on_waits l scan (Done cut) phase number fits high done =
      let ended : Local = record l { scan = None; cuts = l.cuts ++ given_by scan cut ∷ [] } in
      let purpose : For_view ≡ purpose_of l.phase l.staged scan =
      sym (ap (λ (f : Phase). purpose_of f l.staged scan) phase
      ∙ ap
      (λ (r : Region). if is_same_region r N && scan.is_view then For_view else For_nothing) fits.1
      ∙ ap (λ (b : Bool). if is_same_region N N && b then For_view else For_nothing) fits.0) in
      let stands : HasHighView s from k (served ended For_view cut) = (
        omega (arith, length-append l.views (cut ∷ []), number),
        subst (λ (c : List ℕ). IsHighCut s from N c) (sym (get_or_push l.views cut [] k number))
            (done_high s from some N scan.taken cut high done),
      ) in
      inr (subst (λ (p : Purpose). HasHighView s from k (served ended p cut)) purpose stands)

  fed_waits : (l : Local) (o : Option Scan) (q : Region) (is_it : Want → Bool) (x : ℕ)
      → Waiting s from k l → l.scan ≡ o
      → ((taken : List ℕ) → AreHigh s from q taken → is_it (wanted s.callers taken) ≡ true
      → count_of s from q (length (open_round s.callers taken)) ≤ x)
      → Waits s from k (fed s.callers l o q is_it x)
  fed_waits l None q is_it x h is new = inl h
  fed_waits l (Some scan) q is_it x h is new =
      let same : h.scan ≡ scan = same_Some h.scan scan (sym h.under ∙ is) in
      let fits : (scan.is_view ≡ true) × (scan.region ≡ N) =
      subst (λ (c : Scan). (c.is_view ≡ true) × (c.region ≡ N)) same h.fits in
      let high : AreHigh s from N scan.taken =
      subst (λ (c : Scan). AreHigh s from N c.taken) same h.high in
      cond_both (is_same_region scan.region q && is_it (wanted s.callers scan.taken))
      (went_on l (with_word scan x) (wanted s.callers (with_word scan x).taken)) l
      (λ (m : Local). Waits s from k m)
      (λ e.
      let parts =
      and_parts (is_same_region scan.region q) (is_it (wanted s.callers scan.taken)) e in
      let region : N ≡ q = sym fits.1 ∙ same_region_is scan.region q parts.0 in
      let bound : count_of s from N (length (open_round s.callers scan.taken)) ≤ x =
      subst (λ (r : Region). count_of s from r (length (open_round s.callers scan.taken)) ≤ x)
      (sym region)
      (new scan.taken (subst (λ (r : Region). AreHigh s from r scan.taken) region high) parts.1) in
      went_on_waits l (with_word scan x)
      (wanted s.callers (with_word scan x).taken) h.phase h.number fits
      (word_high s from some N scan.taken x high bound) refl)
      (λ _. inl h)

  looked_waits : (l : Local) (look : Looked) → Waiting s from k l
      → Waiting s from k (with_look l look)
  looked_waits l look h = record {
    phase = h.phase;
    number = h.number;
    scan = h.scan;
    under = h.under;
    fits = h.fits;
    high = h.high;
  }

  peeked_waits : (l : Local) (peek : Peeked) → Waiting s from k l
      → Waiting s from k (with_peek l peek)
  peeked_waits l peek h = record {
    phase = h.phase;
    number = h.number;
    scan = h.scan;
    under = h.under;
    fits = h.fits;
    high = h.high;
  }

-- no row is staged while the view's scan is under way
no_viewing : (f : Phase) (r : Region) → f ≡ Viewing → is_staging f r ≡ true → ⊥
no_viewing f N is h = let never : false ≡ true = sym (ap (λ (g : Phase). is_staging g N) is) ∙ h in
    cc
no_viewing f M is h = let never : false ≡ true = sym (ap (λ (g : Phase). is_staging g M) is) ∙ h in
    cc

no_asking : (f : Phase) → f ≡ Viewing → is_asking f ≡ true → ⊥
no_asking f is h = let never : false ≡ true = sym (ap is_asking is) ∙ h in cc

module _ (s : Shape) (from w : World) (k : ℕ) (sound : Sound s w) (all : AllHigh s from w) (me : ℕ)
    (low : me < s.callers) where
  abbrev mine : Local
  mine = local_of w me

  look_waits : (q : Region) (j x : ℕ) (o : Opening) → IsTrue (may_begin s me mine q j o)
      → IsTrue (is_loaded s w.words (Look q j x o)) → Waiting s from k mine
      → Waits s from k (local_after s.callers mine (Look q j x o))
  look_waits q j x Begins_none begins loaded h =
      let look : Looked = record { region = q; caller = j; count = x } in
      fed_waits s from k (omega (arith, low)) (with_look mine look) mine.scan q (is_look_wanted j) x
      (looked_waits s from k (omega (arith, low)) mine look h) refl
      (found_look s w sound me low from all q j x Begins_none loaded)
  look_waits q j x Begins_scan begins loaded h =
      let free : is_view_under_way mine.scan ≡ false =
      not-true (is_view_under_way mine.scan) (and_parts (j == 0) _ begins).1 in
      let never : true ≡ false = sym h.fits.0 ∙ sym (ap is_view_under_way h.under) ∙ free in
      absurd cc
  look_waits N j x (Begins_view reply) begins loaded h =
      absurd (no_asking mine.phase h.phase
      (and_parts (is_asking mine.phase) _ (and_parts (j == 0) _ begins).1).0)
  look_waits M j x (Begins_view reply) begins loaded h = let never : false ≡ true =
      (and_parts (j == 0) false begins).1 in absurd cc

  own_waits : (e : Event) → IsTrue (is_enabled s me mine e) → IsTrue (is_loaded s w.words e)
      → Waiting s from k mine → Waits s from k (local_after s.callers mine e)
  own_waits (Stage q t x) may loaded h =
      absurd (no_viewing mine.phase q h.phase (and_parts (is_staging mine.phase q) _ may).0)
  own_waits Announce may loaded h =
      absurd (no_viewing mine.phase N h.phase (and_parts (is_staging mine.phase N) _ may).0)
  own_waits Publish may loaded h =
      absurd (no_viewing mine.phase M h.phase (and_parts (is_staging mine.phase M) _ may).0)
  own_waits (Object o) may loaded h =
      absurd (no_asking mine.phase h.phase (and_parts (is_asking mine.phase) _ may).0)
  own_waits (Look q j x o) may loaded h =
      look_waits q j x o (and_parts (nat_lt j s.callers) (may_begin s me mine q j o) may).1 loaded h
  own_waits (Peek q j row t x) may loaded h =
      let peek : Peeked = record { region = q; caller = j; row = row; place = t; word = x } in
      fed_waits s from k (omega (arith, low)) (with_peek mine peek) mine.scan q
      (is_peek_wanted s.callers q j row t) x
      (peeked_waits s from k (omega (arith, low)) mine peek h) refl
      (found_peek s w sound me low from all q j row t x may loaded)

step_waits : (s : Shape) (from w : World) (step : Step) (i k : ℕ) → i < s.callers → Sound s w
    → AllHigh s from w → IsTrue (is_possible s w step)
    → Waits s from k (local_of w i) → Waits s from k (local_of (after s w step) i)
unfolding KeepsViews
step_waits s from w step i k low sound all may (inr stands) =
    let kept = step_views s w step i sound may k stands.0 in
    inr (kept.0, subst (λ (c : List ℕ). IsHighCut s from N c) (sym kept.1) stands.1)
step_waits s from w step i k low sound all may (inl h) =
    let p = possible s w step may in
    elim (cases_eq i step.who) [
      | inl here ↦
          subst (λ (j : ℕ). Waits s from k (local_of (after s w step) j)) (sym here)
          (subst (λ (l : Local). Waits s from k l)
          (sym (own_local s w step sound.kept.locals_long p.caller))
          (own_waits s from w k sound all step.who p.caller step.event p.allowed p.loaded
          (subst (λ (j : ℕ). Waiting s from k (local_of w j)) here h)))
      | inr away ↦
          subst (λ (l : Local). Waits s from k l) (sym (other_local s w step i away)) (inl h)
    ]

steps_wait : (s : Shape) (from w : World) (steps : List Step) (i k : ℕ) → i < s.callers → Sound s w
    → AllHigh s from w → IsTrue (are_possible s w steps)
    → Waits s from k (local_of w i) → Waits s from k (local_of (after_all s w steps) i)
steps_wait s from w [] i k low sound all may h = h
steps_wait s from w (step ∷ steps) i k low sound all may h =
    let parts = and_parts (is_possible s w step) (are_possible s (after s w step) steps) may in
    steps_wait s from (after s w step) steps i k low (sound_after s w step sound parts.0)
    (step_high s from w step sound parts.0 all) parts.1
    (step_waits s from w step i k low sound all parts.0 h)

-- after the look at which a call returns, the view of this call is being scanned, as `Waits` says
return_waits : (s : Shape) (w : World) (who x reply : ℕ) → Sound s w → who < s.callers
    → IsTrue (is_loaded s w.words (Look N 0 x (Begins_view reply)))
    → Waits s w (length (local_of w who).views)
    (local_after s.callers (local_of w who) (Look N 0 x (Begins_view reply)))
return_waits s w who x reply sound low loaded =
    let l : Local = local_of w who in
    let begins : Local = opened l N (Begins_view reply) in
    let look : Looked = record { region = N; caller = 0; count = x } in
    let some : 0 < s.callers = omega (arith, low) in
    fed_waits s w (length l.views) some (with_look begins look) (Some (begun l N true)) N
    (is_look_wanted 0) x
    (record {
      phase = refl;
      number = refl;
      scan = begun l N true;
      under = refl;
      fits = (refl, refl);
      high = none_taken s w some N;
    }) refl
    (found_look s w sound who low w (none_since s w sound) N 0 x (Begins_view reply) loaded)

stands_high : (s : Shape) (from : World) (k j : ℕ) (l : Local) → j < s.callers → k < length l.views
    → Waits s from k l → count_of s from N j ≤ slice_index (slice_index_or l.views k []) j
stands_high s from k j l fits below (inr stands) = stands.1.high j fits
stands_high s from k j l fits below (inl h) = absurd (omega (arith, below, h.number))

pub views_hold_earlier : ViewsHoldEarlier
views_hold_earlier s before later who x reply k j run fits number below =
    let step : Step = return_of who x reply in
    let w : World = end_of s before in
    let on = goes_on s before (step ∷ later) run in
    let sound = run_sound s before (prefix_runs s before (step ∷ later) run) in
    let parts = and_parts (is_possible s w step) (are_possible s (after s w step) later) on.may in
    let p = possible s w step parts.0 in
    let first : Waits s w (length (local_of w who).views) (local_of (after s w step) who) =
    subst (λ (l : Local). Waits s w (length (local_of w who).views) l)
    (sym (own_local s w step sound.kept.locals_long p.caller))
    (return_waits s w who x reply sound p.caller p.loaded) in
    let last : Waits s w k (local_of (after_all s (after s w step) later) who) =
    steps_wait s w (after s w step) later who k p.caller (sound_after s w step sound parts.0)
    (step_high s w w step sound parts.0 (none_since s w sound)) parts.1
    (subst (λ (m : ℕ). Waits s w m (local_of (after s w step) who)) (sym number) first) in
    stands_high s w k j (local_of (end_of s (before ++ step ∷ later)) who) fits below
    (subst (λ (v : World). Waits s w k (local_of v who)) (sym on.at) last)
