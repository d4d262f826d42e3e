-- The cut of a scan, by when the scan began and when it ended.
use Rattle.std.proofs.Common.{◌≡◌, ℕ, ◌<◌, ◌≤◌, Bool, true, false, ◌==◌, List, [], ◌∷◌, ◌++◌, length, Some, slice_get, slice_index, refl, sym, ap, ◌∙◌, subst, arith, IsTrue, inl, inr}
use Rattle.std.specs.List.{list_all}
use Rattle.std.proofs.lemmas.List.{append-nil, append_assoc, append_cancel_left}
use Rattle.std.proofs.lemmas.List.FromFn.{fill_by_all}
use Rattle.std.proofs.lemmas.Bool.{and_parts, and_from, eqb-true}
use Rattle.list_laws.proofs.Places.{append_cases, slice_get-push_last}
use Rattle.world_core.specs.declared.region.Region.{Region}
use Rattle.world_core.specs.Layout.{count_index}
use Rattle.world_core.specs.Shape.{Shape}
use Rattle.world_core.specs.Local.{Given, Local}
use Rattle.world_core.specs.Event.{Event, Stage, Announce, Object, Look, Peek, Publish, words_after, is_same_region}
use Rattle.world_core.specs.World.{World, Step, start, local_of, count_of, after, is_possible, after_all, are_possible, IsRun, end_of}
use Rattle.world_core.specs.Snapshot.{counts_in, is_opening, is_first_look, gives_up, keeps_scan, ScanSpan, up_to_last, through_last, GivesCut, IsInstantaneous}
use Rattle.world_laws.specs.Spans.{CutsAreInstantaneous, CutsHoldEarlier, CutsHoldNoLater, CutsHoldOwn, CutsTellSince}
use Rattle.world_laws.proofs.Each.{each_get}
use Rattle.world_laws.proofs.Low.{IsLowCut, IsLowGiven}
use Rattle.world_laws.proofs.Knowing.{Sound, sound_after, start_sound, steps_sound}
use Rattle.world_laws.proofs.Running.{possible, goes_on, counts_never_fall, are_possible-append, after_all-append}
use Rattle.world_laws.proofs.Moments.{Was}
use Rattle.world_laws.proofs.Instants.{run_cut, was_counts}
use Rattle.world_laws.proofs.Begun.{IsBegun, StepGave, AfterStep, step_outcome, more_cuts, gives_of}

-- A scan that no step gives up is under way still, or has ended.
pub steps_begun : (s : Shape) (w : World) (steps : List Step) (i : ℕ) (P : World → Type 0)
    → i < s.callers → Sound s w → IsTrue (are_possible s w steps)
    → list_all (keeps_scan i) steps ≡ true → IsBegun s w i P (local_of w i) (local_of w i).scan
    → IsBegun s (after_all s w steps) i P (local_of (after_all s w steps) i)
    (local_of (after_all s w steps) i).scan
steps_begun s w [] i P low sound may keeps h = h
steps_begun s w (step ∷ steps) i P low sound may keeps h =
    let parts = and_parts (is_possible s w step) (are_possible s (after s w step) steps) may in
    let kept = and_parts (keeps_scan i step) (list_all (keeps_scan i) steps) keeps in
    steps_begun s (after s w step) steps i P low (sound_after s w step sound parts.0) parts.1 kept.1
    (step_outcome s w step P sound parts.0 i low (λ _. h)
    (λ no. let never : true ≡ false = sym kept.0 ∙ no in absurd cc)).0

all_parts : (f : Step → Bool) (xs : List Step) (y : Step) → list_all f (xs ++ y ∷ []) ≡ true
    → (list_all f xs ≡ true) × (f y ≡ true)
all_parts f [] y h = (refl, (and_parts (f y) true h).0)
all_parts f (x ∷ xs) y h =
    let parts = and_parts (f x) (list_all f (xs ++ y ∷ [])) h in
    let rest = all_parts f xs y parts.1 in
    (and_from (f x) (list_all f xs) parts.0 rest.0, rest.1)

-- A look that begins a scan gives up the one before, and changes no word.
first_gives_up : (region : Region) (e : Event) → is_first_look region e ≡ true → gives_up e ≡ true
first_gives_up region (Look r j x o) h = (and_parts (is_same_region r region) (is_opening o) h).1
first_gives_up region (Stage r t x) h = absurd cc
first_gives_up region Announce h = absurd cc
first_gives_up region (Object o) h = absurd cc
first_gives_up region (Peek r j k t x) h = absurd cc
first_gives_up region Publish h = absurd cc

first_words : (region : Region) (s : Shape) (me : ℕ) (l : Local) (words : List ℕ) (e : Event)
    → is_first_look region e ≡ true → words_after s me l words e ≡ words
first_words region s me l words (Look r j x o) h = refl
first_words region s me l words (Stage r t x) h = absurd cc
first_words region s me l words Announce h = absurd cc
first_words region s me l words (Object o) h = absurd cc
first_words region s me l words (Peek r j k t x) h = absurd cc
first_words region s me l words Publish h = absurd cc

pub prefix_runs : (s : Shape) (before later : List Step) → IsRun s (before ++ later)
    → IsRun s before
prefix_runs s before later run =
    (and_parts (are_possible s (start s) before) (are_possible s (end_of s before) later)
    (sym (are_possible-append s (start s) before later) ∙ run)).0

-- the counts of a region, as a cut
counts_are : (s : Shape) (steps : List Step) (region : Region) (cut : List ℕ)
    → length cut ≡ s.callers
    → ((j : ℕ) → j < s.callers → count_of s (end_of s steps) region j ≡ slice_index cut j)
    → counts_in s region (end_of s steps) ≡ cut
counts_are s steps region cut wide same = sym (fill_by_all
    (λ i. count_of s (end_of s steps) region i) cut s.callers 0 wide (λ k low. sym (same k low)))

one_given : (a b : Given) (gs : List Given) → gs ++ a ∷ [] ≡ gs ++ b ∷ [] → a ≡ b
one_given a b gs h = let e : a ∷ [] ≡ b ∷ [] = append_cancel_left gs (a ∷ []) (b ∷ []) h in cc

-- The last step of a scan's span is where the scan, which began at the span's first look, gave the
-- cut.
pub record Spanned (s : Shape) (who : ℕ) (given : Given) (r : ScanSpan) : Type 0 where
  pub low : who < s.callers
  pub step : StepGave s (end_of s (up_to_last r)) r.last who (end_of s r.before)
  pub is : step.gave.given ≡ given
  pub quiet : keeps_scan who r.last ≡ true
  pub still : (after s (end_of s r.before) r.first).words ≡ (end_of s r.before).words
  pub ends : end_of s (through_last r) ≡ after s (end_of s (up_to_last r)) r.last
  pub sound : Sound s (end_of s (through_last r))

pub spanned : (s : Shape) (who : ℕ) (given : Given) (r : ScanSpan) → GivesCut s who given r
    → Spanned s who given r
spanned s who given r h =
    let up : List Step = up_to_last r in
    let w : World = end_of s r.before in
    let u : World = end_of s up in
    let up_run : IsRun s up = prefix_runs s up (r.last ∷ []) h.run in
    let run : IsRun s r.before = prefix_runs s r.before (r.first ∷ r.between) up_run in
    let sound : Sound s w = steps_sound s (start s) r.before (start_sound s) run in
    let on = goes_on s r.before (r.first ∷ r.between) up_run in
    let parts =
    and_parts (is_possible s w r.first) (are_possible s (after s w r.first) r.between) on.may in
    let begins =
    and_parts (r.first.who == who) (is_first_look given.region r.first.event) h.begins in
    let caller : r.first.who ≡ who = eqb-true r.first.who who begins.0 in
    let low : who < s.callers =
    subst (λ (j : ℕ). j < s.callers) caller (possible s w r.first parts.0).caller in
    let begin : World → Type 0 = λ (v : World). v ≡ w in
    let stops : keeps_scan who r.first ≡ false = gives_of (r.first.who == who)
    (gives_up r.first.event) begins.0 (first_gives_up given.region r.first.event begins.1) in
    let first : AfterStep s w r.first who begin =
    step_outcome s w r.first begin sound parts.0 who low
    (λ keeps. let never : true ≡ false = sym keeps ∙ stops in absurd cc) (λ _. refl) in
    let keeps = all_parts (keeps_scan who) r.between r.last h.keeps in
    let along : IsBegun s (after_all s (after s w r.first) r.between) who begin
    (local_of (after_all s (after s w r.first) r.between) who)
    (local_of (after_all s (after s w r.first) r.between) who).scan =
    steps_begun s (after s w r.first) r.between who begin low
    (sound_after s w r.first sound parts.0) parts.1 keeps.0 first.0 in
    let there : IsBegun s u who begin (local_of u who) (local_of u who).scan =
    subst (λ (v : World). IsBegun s v who begin (local_of v who) (local_of v who).scan)
    (sym on.at) along in
    let sound_up : Sound s u = steps_sound s (start s) up (start_sound s) up_run in
    let on_last = goes_on s up (r.last ∷ []) h.run in
    let may : IsTrue (is_possible s u r.last) =
    (and_parts (is_possible s u r.last) true on_last.may).0 in
    let last : AfterStep s u r.last who begin =
    step_outcome s u r.last begin sound_up may who low (λ _. there)
    (λ no. let never : true ≡ false = sym keeps.1 ∙ no in absurd cc) in
    let ends : (local_of (after s u r.last) who).cuts ≡ (local_of u who).cuts ++ given ∷ [] =
    sym (ap (λ (v : World). (local_of v who).cuts) on_last.at) ∙ h.ends in
    elim last.1 [
      | inl same ↦ absurd (more_cuts (local_of u who).cuts given (sym same ∙ ends))
      | inr (from, kind, gave) ↦
          let step : StepGave s u r.last who w =
          subst (λ (v : World). StepGave s u r.last who v) kind gave in
          record {
            low = low;
            step = step;
            is = one_given step.gave.given given (local_of u who).cuts
                (sym step.gave.cuts_are ∙ ends);
            quiet = keeps.1;
            still = first_words given.region s r.first.who
                (local_of w r.first.who) w.words r.first.event begins.1;
            ends = on_last.at;
            sound = steps_sound s (start s) (through_last r) (start_sound s) h.run;
          }
    ]

module _ (s : Shape) (who : ℕ) (given : Given) (r : ScanSpan) (h : GivesCut s who given r) where
  it : Spanned s who given r
  it = spanned s who given r h

  at_end : slice_get (local_of (end_of s (through_last r)) who).cuts
      (length (local_of (end_of s (up_to_last r)) who).cuts) ≡ Some given
  at_end =
      ap (λ (gs : List Given). slice_get gs (length (local_of (end_of s (up_to_last r)) who).cuts))
      h.ends
      ∙ slice_get-push_last (local_of (end_of s (up_to_last r)) who).cuts given

  -- the counts before the scan, and those after it
  earlier : (j : ℕ) → j < s.callers
      → count_of s (end_of s r.before) given.region j ≤ slice_index given.cut j
  earlier j fits =
      subst (λ (g : Given). count_of s (end_of s r.before) g.region j ≤ slice_index g.cut j) it.is
      (it.step.gave.high.high j fits)

  at_last : IsLowCut s (end_of s (through_last r)) given.region given.cut
  at_last =
      each_get (IsLowGiven s (end_of s (through_last r)))
      (local_of (end_of s (through_last r)) who).cuts
      (length (local_of (end_of s (up_to_last r)) who).cuts) given
      (it.sound.low who it.low).cuts at_end

  -- the last step changes no count
  last_still : (j : ℕ) → count_of s (end_of s (through_last r)) given.region j
      ≡ count_of s (end_of s (up_to_last r)) given.region j
  last_still j = ap (λ (v : World). count_of s v given.region j) it.ends
      ∙ ap (λ (ws : List ℕ). slice_index ws (count_index s.callers given.region j)) it.step.words

  own : slice_index given.cut who ≡ count_of s (end_of s (through_last r)) given.region who
  own =
      let stays : count_of s (end_of s r.before) given.region who
      ≡ count_of s (end_of s (up_to_last r)) given.region who =
      subst (λ (g : Given). count_of s (end_of s r.before) g.region who
      ≡ count_of s (end_of s (up_to_last r)) g.region who) it.is it.step.gave.own in
      let up = earlier who it.low in
      let down = at_last.low who it.low in
      omega (arith, stays, up, down, last_still who)

  -- the first look changes no count
  after_first : end_of s (r.before ++ r.first ∷ []) ≡ after s (end_of s r.before) r.first
  after_first = after_all-append s (start s) r.before (r.first ∷ [])

  first_still : (j : ℕ) → count_of s (end_of s (r.before ++ r.first ∷ [])) given.region j
      ≡ count_of s (end_of s r.before) given.region j
  first_still j = ap (λ (v : World). count_of s v given.region j) after_first
      ∙ ap (λ (ws : List ℕ). slice_index ws (count_index s.callers given.region j)) it.still

  was : Was s (through_last r) given.region given.cut
  was = run_cut s (through_last r) who
      (length (local_of (end_of s (up_to_last r)) who).cuts) given h.run it.low at_end

  -- the moment is after all the scan's steps but the last
  late : (more : List Step) → was.early ≡ up_to_last r ++ more → IsInstantaneous s given r
  late more longer = (
    r.between,
    [],
    sym (append-nil r.between),
    counts_are s (up_to_last r) given.region given.cut was.wide
        (λ j fits.
        let prefix : IsRun s (up_to_last r ++ more) =
        subst (λ (xs : List Step). IsRun s xs) longer (prefix_runs s was.early was.later
        (subst (λ (xs : List Step). IsRun s xs) was.parts h.run)) in
        let up : count_of s (end_of s (up_to_last r)) given.region j
        ≤ count_of s (end_of s (up_to_last r ++ more)) given.region j =
        counts_never_fall s (up_to_last r) more given.region j prefix fits in
        let here : count_of s (end_of s was.early) given.region j
        ≡ count_of s (end_of s (up_to_last r ++ more)) given.region j =
        ap (λ (xs : List Step). count_of s (end_of s xs) given.region j) longer in
        let down : count_of s (end_of s was.early) given.region j
        ≤ count_of s (end_of s (was.early ++ was.later)) given.region j =
        counts_never_fall s was.early was.later given.region j
        (subst (λ (xs : List Step). IsRun s xs) was.parts h.run) fits in
        let there : count_of s (end_of s (through_last r)) given.region j
        ≡ count_of s (end_of s (was.early ++ was.later)) given.region j =
        ap (λ (xs : List Step). count_of s (end_of s xs) given.region j) was.parts in
        omega (arith, up, here, down, there, last_still j, was.same j fits)),
  )

  -- the moment is before the first look, and the counts stayed until then
  soon : (more : List Step) → r.before ≡ was.early ++ more → IsInstantaneous s given r
  soon more longer = (
    [],
    r.between,
    refl,
    counts_are s (r.before ++ r.first ∷ []) given.region given.cut was.wide
        (λ j fits.
        let run : IsRun s r.before = prefix_runs s r.before (r.first ∷ r.between)
        (prefix_runs s (up_to_last r) (r.last ∷ []) h.run) in
        let up : count_of s (end_of s was.early) given.region j
        ≤ count_of s (end_of s (was.early ++ more)) given.region j =
        counts_never_fall s was.early more given.region j
        (subst (λ (xs : List Step). IsRun s xs) longer run) fits in
        let here : count_of s (end_of s r.before) given.region j
        ≡ count_of s (end_of s (was.early ++ more)) given.region j =
        ap (λ (xs : List Step). count_of s (end_of s xs) given.region j) longer in
        let down = earlier j fits in
        omega (arith, up, here, down, first_still j, was.same j fits)),
  )

  -- the moment is between the first look and the last step
  within : (ys zs : List Step) → was.early ≡ r.before ++ ys → r.first ∷ r.between ≡ ys ++ zs
      → IsInstantaneous s given r
  within [] zs longer parts = soon [] (let e : was.early ≡ r.before =
      longer ∙ append-nil r.before in sym e ∙ sym (append-nil was.early))
  within (y ∷ ys) zs longer parts =
      let first : r.first ≡ y = cc in
      let rest : r.between ≡ ys ++ zs = cc in (
        ys,
        zs,
        rest,
        ap (λ (xs : List Step). counts_in s given.region (end_of s xs))
            (ap (λ (x : Step). r.before ++ x ∷ ys) first ∙ sym longer)
            ∙ was_counts s (through_last r) given.region given.cut was,
      )

  middle : (more : List Step) → up_to_last r ≡ was.early ++ more → IsInstantaneous s given r
  middle more longer = elim (append_cases r.before was.early (r.first ∷ r.between) more longer) [
    | inl (ys, on) ↦
        within ys more on
        (append_cancel_left r.before (r.first ∷ r.between) (ys ++ more)
        (longer ∙ ap (λ (xs : List Step). xs ++ more) on ∙ append_assoc r.before ys more))
    | inr (ys, on) ↦ soon ys on
  ]

  instantaneous : IsInstantaneous s given r
  instantaneous = elim (append_cases (up_to_last r) was.early (r.last ∷ []) was.later was.parts) [
    | inl (more, longer) ↦ late more longer
    | inr (more, longer) ↦ middle more longer
  ]

-- the laws that `specs` states, from what is proved above
pub cuts_are_instantaneous : CutsAreInstantaneous
cuts_are_instantaneous s who given r h = instantaneous s who given r h

pub cuts_hold_earlier : CutsHoldEarlier
cuts_hold_earlier s who given r j h low = earlier s who given r h j low

pub cuts_hold_no_later : CutsHoldNoLater
cuts_hold_no_later s who given r j h low = (at_last s who given r h).low j low

pub cuts_hold_own : CutsHoldOwn
cuts_hold_own s who given r h = own s who given r h

pub cuts_tell_since : CutsTellSince
cuts_tell_since s who given r h =
    let it = spanned s who given r h in
    subst (λ (g : Given). g.since ≡ length (local_of (end_of s r.before) who).looked) it.is
    it.step.gave.since
