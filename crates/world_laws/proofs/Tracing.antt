-- Each cut that a caller has was given by a scan of its own, in a span of the run.
use Rattle.std.proofs.Common.{◌≡◌, ℕ, zero, suc, ◌+◌, ◌*◌, ◌<◌, ◌≤◌, Bool, true, false, ◌&&◌, ◌==◌, List, [], ◌∷◌, ◌++◌, length, Option, Some, None, refl, sym, ap, ◌∙◌, subst, arith, IsTrue, inl, inr}
use Rattle.std.specs.List.{list_all}
use Rattle.std.proofs.lemmas.List.{append-nil, append_assoc}
use Rattle.std.proofs.lemmas.Bool.{and_parts, and_from, eq-eqb, ne_eqb, cases_Bool, cases_eq, cond_both}
use Rattle.list_laws.proofs.Places.{get_or-replicate_default}
use Rattle.world_core.specs.declared.region.Region.{Region}
use Rattle.world_core.specs.declared.region.Region.TheVariants.{N, M}
use Rattle.world_core.specs.declared.course.Course.TheVariants.{Collects, Ends}
use Rattle.world_core.specs.declared.want.Want.{Want}
use Rattle.world_core.specs.declared.want.Want.TheVariants.{Look as Wants_look, Peek as Wants_peek, Done}
use Rattle.world_core.specs.Shape.{Shape}
use Rattle.world_core.specs.Local.{Scan, Given, Local, fresh}
use Rattle.world_core.specs.Scan.{rounds, open_round, course, course_after, wanted}
use Rattle.world_core.specs.Event.{Event, Stage, Announce, Object, Look, Peek, Publish, Opening, Begins_none, Begins_scan, Begins_view, local_after, opened, fed, went_on, given_by, with_word, with_look, with_peek, purpose_of, is_same_region, is_look_wanted, is_peek_wanted}
use Rattle.world_core.specs.World.{World, Step, start, local_of, after, is_possible, after_all, are_possible, IsRun, end_of}
use Rattle.world_core.specs.Snapshot.{is_first_look, begins_scan, gives_up, keeps_scan, ScanSpan, through_last}
use Rattle.world_core.proofs.Scans.{open_length}
use Rattle.world_laws.specs.Spans.{IsGivenBy, CutsHaveSpans}
use Rattle.world_laws.proofs.Each.{Each, each_map, each_push, each_get}
use Rattle.world_laws.proofs.Endings.{done_ends}
use Rattle.world_laws.proofs.Knowing.{Sound, sound_after, start_sound}
use Rattle.world_laws.proofs.Running.{possible, own_local, other_local, are_possible-append, after_all-append}
use Rattle.world_laws.proofs.Begun.{StepGave, AfterStep, step_outcome, served_scan, keeps_of, others_of}
use Rattle.world_laws.proofs.Ordering.{Anywhere, AllPlaced, start_placed, step_placed}

-- The scan under way, if there is one, is of a region for which Q holds.
abbrev OnScan : (Region → Type 0) → Option Scan → Type 0
OnScan Q None = Unit {0}
OnScan Q (Some scan) = Q scan.region

on_none : (Q : Region → Type 0) (o : Option Scan) → o ≡ None → OnScan Q o
on_none Q o is = subst (λ (c : Option Scan). OnScan Q c) (sym is) tt

region_self : (q : Region) → is_same_region q q ≡ true
region_self N = refl
region_self M = refl

module _ (Q : Region → Type 0) where
  went_on_scan : (l : Local) (scan : Scan) (want : Want) → Q scan.region
      → OnScan Q (went_on l scan want).scan
  went_on_scan l scan (Done cut) h =
      on_none Q (went_on l scan (Done cut)).scan
      (served_scan (record l { scan = None; cuts = l.cuts ++ given_by scan cut ∷ [] })
      (purpose_of l.phase l.staged scan) cut)
  went_on_scan l scan (Wants_look j) h = h
  went_on_scan l scan (Wants_peek j k e) h = h

  fed_scan : (n : ℕ) (l : Local) (o : Option Scan) (q : Region) (is_it : Want → Bool) (x : ℕ)
      → OnScan Q o → OnScan Q l.scan → OnScan Q (fed n l o q is_it x).scan
  fed_scan n l None q is_it x h kept = kept
  fed_scan n l (Some scan) q is_it x h kept =
      cond_both (is_same_region scan.region q && is_it (wanted n scan.taken))
      (went_on l (with_word scan x) (wanted n (with_word scan x).taken)) l
      (λ (m : Local). OnScan Q m.scan)
      (λ _. went_on_scan l (with_word scan x) (wanted n (with_word scan x).taken) h) (λ _. kept)

  opened_scan : (l : Local) (q : Region) (j x : ℕ) (o : Opening)
      → (gives_up (Look q j x o) ≡ false → OnScan Q l.scan)
      → (is_first_look q (Look q j x o) ≡ true → Q q)
      → OnScan Q (opened l q o).scan
  opened_scan l q j x Begins_none old new = old refl
  opened_scan l q j x Begins_scan old new =
      new (and_from (is_same_region q q) true (region_self q) refl)
  opened_scan l q j x (Begins_view reply) old new =
      new (and_from (is_same_region q q) true (region_self q) refl)

  -- an event that gives no scan up leaves the region of the scan under way, and a look may begin a
  -- scan
  event_scan : (n : ℕ) (l : Local) (e : Event) → (gives_up e ≡ false → OnScan Q l.scan)
      → ((q : Region) → is_first_look q e ≡ true → Q q) → OnScan Q (local_after n l e).scan
  event_scan n l (Stage q t x) old new = old refl
  event_scan n l (Object o) old new = old refl
  event_scan n l Announce old new = tt
  event_scan n l Publish old new = tt
  event_scan n l (Peek q j k t x) old new =
      fed_scan n (with_peek l (record { region = q; caller = j; row = k; place = t; word = x }))
      l.scan q (is_peek_wanted n q j k t) x (old refl) (old refl)
  event_scan n l (Look q j x o) old new =
      let opens = opened_scan l q j x o old (new q) in
      fed_scan n (with_look (opened l q o) (record { region = q; caller = j; count = x }))
      (opened l q o).scan q (is_look_wanted j) x opens opens

-- A scan of a region that began in these steps, and that none of the later steps gave up.
record Open (done : List Step) (i : ℕ) (region : Region) : Type 0 where
  before : List Step
  first : Step
  between : List Step
  parts : done ≡ before ++ first ∷ between
  begins : begins_scan i region first ≡ true
  keeps : list_all (keeps_scan i) between ≡ true

all_push : (f : Step → Bool) (xs : List Step) (y : Step) → list_all f xs ≡ true → f y ≡ true
    → list_all f (xs ++ y ∷ []) ≡ true
all_push f [] y h new = and_from (f y) true new refl
all_push f (x ∷ xs) y h new =
    let parts = and_parts (f x) (list_all f xs) h in
    and_from (f x) (list_all f (xs ++ y ∷ [])) parts.0 (all_push f xs y parts.1 new)

open_on : (done : List Step) (i : ℕ) (region : Region) (step : Step) → keeps_scan i step ≡ true
    → Open done i region → Open (done ++ step ∷ []) i region
open_on done i region step keeps h =
    record {
      before = h.before;
      first = h.first;
      between = h.between ++ step ∷ [];
      parts = ap (λ (xs : List Step). xs ++ step ∷ []) h.parts
          ∙ append_assoc h.before (h.first ∷ h.between) (step ∷ []);
      begins = h.begins;
      keeps = all_push (keeps_scan i) h.between step h.keeps keeps;
    }

map_scan : (Q R : Region → Type 0) (o : Option Scan) → ((r : Region) → Q r → R r) → OnScan Q o
    → OnScan R o
map_scan Q R None f h = tt
map_scan Q R (Some scan) f h = f scan.region h

-- a scan that is under way after a step began in the steps up to it
step_open : (s : Shape) (done : List Step) (w : World) (step : Step) (i : ℕ) → Sound s w
    → IsTrue (is_possible s w step) → OnScan (Open done i) (local_of w i).scan
    → OnScan (Open (done ++ step ∷ []) i) (local_of (after s w step) i).scan
step_open s done w step i sound may h =
    let p = possible s w step may in
    let on : keeps_scan i step ≡ true → OnScan (Open (done ++ step ∷ []) i) (local_of w i).scan =
    λ keeps. map_scan (Open done i) (Open (done ++ step ∷ []) i) (local_of w i).scan
    (λ r a. open_on done i r step keeps a) h in
    elim (cases_eq i step.who) [
      | inl here ↦
          subst (λ (l : Local). OnScan (Open (done ++ step ∷ []) i) l.scan)
          (sym (ap (local_of (after s w step)) here ∙ own_local s w step sound.kept.locals_long
          p.caller ∙ ap (λ (j : ℕ). local_after s.callers (local_of w j) step.event) (sym here)))
          (event_scan (Open (done ++ step ∷ []) i) s.callers (local_of w i) step.event
          (λ quiet. on (keeps_of (step.who == i) (gives_up step.event) quiet))
          (λ q first.
          record {
            before = done;
            first = step;
            between = [];
            parts = refl;
            begins = and_from (step.who == i) (is_first_look q step.event)
                (eq-eqb step.who i (sym here)) first;
            keeps = refl;
          }))
      | inr away ↦
          subst (λ (l : Local). OnScan (Open (done ++ step ∷ []) i) l.scan)
          (sym (other_local s w step i away))
          (on
          (others_of (step.who == i) (gives_up step.event) (ne_eqb step.who i (λ e. away (sym e)))))
    ]

-- A scan isn't done with its first word.
few_by : (m n t : ℕ) → 0 < n → t + m * n ≡ 1 → m ≤ 1
few_by zero n t some h = omega arith
few_by (suc zero) n t some h = omega arith
few_by (suc (suc m)) n t some h = absurd (omega (arith, some, h))

few_rounds : (n x : ℕ) → 0 < n → rounds n (x ∷ []) ≤ 1
few_rounds n x some = few_by (rounds n (x ∷ [])) n (length (open_round n (x ∷ []))) some
    (open_length n (x ∷ []) 0 some)

one_round : (n x m : ℕ) → m ≤ 1 → course_after n (x ∷ []) m ≡ Collects
one_round n x zero few = refl
one_round n x (suc zero) few = refl
one_round n x (suc (suc m)) few = absurd (omega arith)

not_done_at_first : (n x : ℕ) (cut : List ℕ) → 0 < n → wanted n (x ∷ []) ≡ Done cut → ⊥
not_done_at_first n x cut some done =
    let few : rounds n (x ∷ []) ≤ 1 = few_rounds n x some in
    let ends : course n (x ∷ []) ≡ Ends cut =
    done_ends (course n (x ∷ [])) (open_round n (x ∷ [])) cut done in
    let never : Collects ≡ Ends cut = sym (one_round n x (rounds n (x ∷ [])) few) ∙ ends in cc

-- A caller's scan under way began in these steps, and each of its cuts was given by a scan in them.
record Traced (s : Shape) (done : List Step) (i : ℕ) (l : Local) : Type 0 where
  scan : OnScan (Open done i) l.scan
  cuts : Each (IsGivenBy s done i) l.cuts

given_on : (s : Shape) (done : List Step) (step : Step) (i : ℕ) (g : Given) → IsGivenBy s done i g
    → IsGivenBy s (done ++ step ∷ []) i g
given_on s done step i g h =
    record {
      span = h.span;
      later = h.later ++ step ∷ [];
      parts = ap (λ (xs : List Step). xs ++ step ∷ []) h.parts
          ∙ append_assoc (through_last h.span) h.later (step ∷ []);
      gives = h.gives;
    }

module _ (s : Shape) (done : List Step) (w : World) (step : Step) (i : ℕ) (low : i < s.callers)
    (from : World) (at : end_of s done ≡ w)
    (run : IsRun s (done ++ step ∷ [])) (ends : end_of s (done ++ step ∷ []) ≡ after s w step)
    (gave : StepGave s w step i from)
    (begun : OnScan (Open done i) (local_of w i).scan) where
  -- the scan that gave the cut is the one under way
  scan_open : keeps_scan i step ≡ true → Open done i gave.gave.given.region
  scan_open keeps =
      let is : (local_of w i).scan ≡ Some gave.gave.scan =
      sym (gave.quiet keeps) ∙ gave.gave.under in
      subst (λ (r : Region). Open done i r) (sym gave.gave.region)
      (subst (λ (o : Option Scan). OnScan (Open done i) o) is begun)

  given_now : keeps_scan i step ≡ true → IsGivenBy s (done ++ step ∷ []) i gave.gave.given
  given_now keeps =
      let o = scan_open keeps in
      let span : ScanSpan =
      record { before = o.before; first = o.first; between = o.between; last = step } in
      let all : done ++ step ∷ [] ≡ through_last span =
      ap (λ (xs : List Step). xs ++ step ∷ []) o.parts in
      let more : (local_of (end_of s (done ++ step ∷ [])) i).cuts
      ≡ (local_of (end_of s done) i).cuts ++ gave.gave.given ∷ [] =
      ap (λ (v : World). (local_of v i).cuts) ends ∙ gave.gave.cuts_are
      ∙ ap (λ (v : World). (local_of v i).cuts ++ gave.gave.given ∷ []) (sym at) in
      record {
        span = span;
        later = [];
        parts = all ∙ sym (append-nil (through_last span));
        gives =
            record {
              run = subst (λ (xs : List Step). IsRun s xs) all run;
              begins = o.begins;
              keeps = all_push (keeps_scan i) o.between step o.keeps keeps;
              ends = subst (λ (xs : List Step). (local_of (end_of s (xs ++ step ∷ [])) i).cuts
                  ≡ (local_of (end_of s xs) i).cuts ++ gave.gave.given ∷ []) o.parts more;
            };
      }

  never_at_first : keeps_scan i step ≡ false → ⊥
  never_at_first stops =
      let none : gave.gave.scan.taken ≡ [] = gave.loud stops gave.gave.scan gave.gave.under in
      not_done_at_first s.callers gave.gave.word gave.gave.given.cut (omega (arith, low))
      (sym (ap (λ (xs : List ℕ). wanted s.callers (xs ++ gave.gave.word ∷ [])) none)
      ∙ gave.gave.done)

  given_span : IsGivenBy s (done ++ step ∷ []) i gave.gave.given
  given_span = elim (cases_Bool (keeps_scan i step)) [
    | inl keeps ↦ given_now keeps
    | inr stops ↦ absurd (never_at_first stops)
  ]

AllTraced : Shape → List Step → World → Type 0
AllTraced s done w = (i : ℕ) → i < s.callers → Traced s done i (local_of w i)

step_traced : (s : Shape) (done : List Step) (w : World) (step : Step) → end_of s done ≡ w
    → IsRun s (done ++ step ∷ []) → end_of s (done ++ step ∷ []) ≡ after s w step → Sound s w
    → IsTrue (is_possible s w step)
    → AllPlaced s w → AllTraced s done w → AllTraced s (done ++ step ∷ []) (after s w step)
unfolding AllTraced
step_traced s done w step at run ends sound may placed all i low =
    let after_it : AfterStep s w step i Anywhere =
    step_outcome s w step Anywhere sound may i low (λ _. (placed i low).begun) (λ _. tt) in
    let old : Each (IsGivenBy s (done ++ step ∷ []) i) (local_of w i).cuts =
    each_map (IsGivenBy s done i) (IsGivenBy s (done ++ step ∷ []) i) (local_of w i).cuts
    (λ g a. given_on s done step i g a) (all i low).cuts in
    record {
      scan = step_open s done w step i sound may (all i low).scan;
      cuts = elim after_it.1 [
        | inl same ↦
            subst (λ (gs : List Given). Each (IsGivenBy s (done ++ step ∷ []) i) gs) (sym same) old
        | inr (from, kind, gave) ↦
            subst (λ (gs : List Given). Each (IsGivenBy s (done ++ step ∷ []) i) gs)
            (sym gave.gave.cuts_are)
            (each_push (IsGivenBy s (done ++ step ∷ []) i) (local_of w i).cuts gave.gave.given old
            (given_span s done w step i low from at run ends gave (all i low).scan))
      ];
    }

fresh_traced : (s : Shape) (done : List Step) (i : ℕ) → Traced s done i fresh
fresh_traced s done i = record { scan = tt; cuts = tt }

start_traced : (s : Shape) → AllTraced s [] (start s)
unfolding AllTraced
start_traced s i low = subst (λ (l : Local). Traced s [] i l)
    (sym (get_or-replicate_default s.callers i fresh)) (fresh_traced s [] i)

-- callers whose scans and cuts are traced in the steps so far have them traced in the whole run
steps_traced : (s : Shape) (done rest : List Step) (w : World) → Sound s w → IsRun s done
    → end_of s done ≡ w → IsTrue (are_possible s w rest)
    → AllPlaced s w → AllTraced s done w → AllTraced s (done ++ rest) (after_all s w rest)
steps_traced s done [] w sound run ends may placed all =
    subst (λ (xs : List Step). AllTraced s xs w) (sym (append-nil done)) all
steps_traced s done (step ∷ rest) w sound run ends may placed all =
    let parts = and_parts (is_possible s w step) (are_possible s (after s w step) rest) may in
    let here : are_possible s (end_of s done) (step ∷ []) ≡ true =
    subst (λ (v : World). are_possible s v (step ∷ []) ≡ true) (sym ends)
    (and_from (is_possible s w step) true parts.0 refl) in
    let run' : IsRun s (done ++ step ∷ []) =
    are_possible-append s (start s) done (step ∷ []) ∙ and_from (are_possible s (start s) done)
    (are_possible s (end_of s done) (step ∷ [])) run here in
    let ends' : end_of s (done ++ step ∷ []) ≡ after s w step =
    after_all-append s (start s) done (step ∷ []) ∙ ap (λ (v : World). after s v step) ends in
    subst (λ (xs : List Step). AllTraced s xs (after_all s (after s w step) rest))
    (append_assoc done (step ∷ []) rest)
    (steps_traced s (done ++ step ∷ []) rest (after s w step) (sound_after s w step sound parts.0)
    run' ends' parts.1 (step_placed s w step sound parts.0 placed)
    (step_traced s done w step ends run' ends' sound parts.0 placed all))

pub cuts_have_spans : CutsHaveSpans
unfolding AllTraced
cuts_have_spans s steps i p given run low is =
    let all = steps_traced s [] steps (start s) (start_sound s) refl refl run (start_placed s)
    (start_traced s) i low in
    each_get (IsGivenBy s steps i) (local_of (end_of s steps) i).cuts p given all.cuts is
