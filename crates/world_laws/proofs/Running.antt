-- What each step keeps, and what therefore holds along every run.
use Rattle.std.proofs.Common.{◌≡◌, ◌≢◌, ℕ, ◌+◌, ◌<◌, ◌≤◌, true, false, not, ◌&&◌, ◌==◌, nat_lt, List, [], ◌∷◌, ◌++◌, length, slice_index, refl, sym, ap, ◌∙◌, subst, arith, IsTrue, inl, inr, length-set}
use Rattle.std.proofs.Math.Bool.{and_assoc}
use Rattle.list_laws.proofs.Places.{get_or-replicate_default}
use Rattle.std.proofs.lemmas.List.{get_or-set_other, get_or-set_same, length-replicate}
use Rattle.std.proofs.lemmas.Bool.{and_parts, ltb-true, cases_eq, not-true, eqb-false, and_from}
use Rattle.world_core.specs.declared.region.Region.{Region}
use Rattle.world_core.specs.declared.region.Region.TheVariants.{N, M}
use Rattle.world_core.specs.Layout.{places, count_index, place_index, object_index}
use Rattle.world_core.specs.Shape.{Shape, words_of}
use Rattle.world_core.specs.Local.{Local, fresh, own_count}
use Rattle.world_core.specs.Event.{Event, Stage, Announce, Object, Look, Peek, Publish, is_enabled, is_allowed, is_loaded, words_after, local_after}
use Rattle.world_core.specs.World.{World, Step, start, local_of, count_of, row_word, after, is_possible, after_all, are_possible, IsRun, end_of}
use Rattle.world_core.specs.Agreement.{Agrees}
use Rattle.world_laws.specs.Runs.{are_of_others, CountsNeverFall, CountedRowsStay, CountsAreOwn, RowsAreOwn, LocalsAreOwn, LocalsAgree, StartIsReachable, StepsReach}
use Rattle.world_core.proofs.Indices.{count_or_row, count_or_object}
use Rattle.world_laws.proofs.Words.{row_kept, count_kept, own_few, others_agree}
use Rattle.world_laws.proofs.Raising.{announced_counts, published_counts}
use Rattle.world_laws.proofs.Agreeing.{own_agrees}

-- The words and the locals of a world are as many as its shape has, and each local agrees with the
-- words; this holds of every reachable world.
pub record Kept (s : Shape) (w : World) : Type 0 where
  pub words_long : length w.words ≡ words_of s
  pub locals_long : length w.locals ≡ s.callers
  pub agree : (i : ℕ) → i < s.callers → Agrees s w.words i (local_of w i)

-- A possible step is of one of the callers, is enabled, and loads what the words have.
pub record Possible (s : Shape) (w : World) (step : Step) : Type 0 where
  pub caller : step.who < s.callers
  pub allowed : IsTrue (is_enabled s step.who (local_of w step.who) step.event)
  pub loaded : IsTrue (is_loaded s w.words step.event)

pub possible : (s : Shape) (w : World) (step : Step) → IsTrue (is_possible s w step)
    → Possible s w step
possible s w step h =
    let both = and_parts (is_allowed s step.who (local_of w step.who) step.event)
    (is_loaded s w.words step.event) h in
    let parts = and_parts (nat_lt step.who s.callers)
    (is_enabled s step.who (local_of w step.who) step.event) both.0 in
    record { caller = ltb-true step.who s.callers parts.0; allowed = parts.1; loaded = both.1 }

words_long : (s : Shape) (me : ℕ) (l : Local) (words : List ℕ) (e : Event)
    → length (words_after s me l words e) ≡ length words
words_long s me l words (Stage q t x) =
    length-set words (place_index s.callers s.cap q me (own_count l q) t) x
words_long s me l words Announce = length-set words (count_index s.callers N me) (l.announced + 1)
words_long s me l words Publish = length-set words (count_index s.callers M me) (l.published + 1)
words_long s me l words (Object o) = length-set words (object_index s.callers s.cap o.place) o.new
words_long s me l words (Look q j x o) = refl
words_long s me l words (Peek q j m t x) = refl

-- the locals after a step
pub own_local : (s : Shape) (w : World) (step : Step) → length w.locals ≡ s.callers
    → step.who < s.callers
    → local_of (after s w step) step.who ≡ local_after s.callers (local_of w step.who) step.event
own_local s w step long low = get_or-set_same w.locals step.who
    (local_after s.callers (local_of w step.who) step.event) fresh (omega arith)

pub other_local : (s : Shape) (w : World) (step : Step) (i : ℕ) → i ≢ step.who
    → local_of (after s w step) i ≡ local_of w i
other_local s w step i ne = get_or-set_other w.locals step.who i
    (local_after s.callers (local_of w step.who) step.event) fresh ne

-- each step keeps what every reachable world has
pub step_kept : (s : Shape) (w : World) (step : Step) → Kept s w → IsTrue (is_possible s w step)
    → Kept s (after s w step)
step_kept s w step h may =
    let p = possible s w step may in
    record {
      words_long = words_long s step.who (local_of w step.who) w.words step.event ∙ h.words_long;
      locals_long = length-set w.locals step.who
          (local_after s.callers (local_of w step.who) step.event) ∙ h.locals_long;
      agree = λ i low. elim (cases_eq i step.who) [
        | inl here ↦
            subst (λ (j : ℕ). Agrees s (after s w step).words j (local_of (after s w step) j))
            (sym here)
            (subst (λ (l : Local). Agrees s (after s w step).words step.who l)
            (sym (own_local s w step h.locals_long p.caller))
            (own_agrees s step.who (local_of w step.who) w.words step.event p.caller
            (omega (arith, h.words_long)) p.allowed (h.agree step.who p.caller)))
        | inr away ↦
            subst (λ (l : Local). Agrees s (after s w step).words i l)
            (sym (other_local s w step i away))
            (others_agree s step.who (local_of w step.who) w.words step.event p.caller p.allowed i
            (local_of w i) low away (h.agree i low))
      ];
    }

-- the start has what every reachable world has
no_count : (r : Region) → 0 ≡ own_count fresh r
no_count N = refl
no_count M = refl

no_rows : (r : Region) (k : ℕ) → k < own_count fresh r → ⊥
no_rows N k below = omega arith
no_rows M k below = omega arith

fresh_agrees : (s : Shape) (i : ℕ) → Agrees s (start s).words i fresh
fresh_agrees s i =
    record {
      counts =
          λ r. get_or-replicate_default (words_of s) (count_index s.callers r i) 0 ∙ no_count r;
      few = omega arith;
      rows = λ r k p below fits. absurd (no_rows r k below);
      staged = λ r p staging staged. let never : false ≡ true = staged in absurd cc;
      staged_in = tt;
      kept_in = tt;
      phase =
          record {
            announced = refl;
            operations = refl;
            replies = refl;
            views = refl;
            seen = refl;
            embedded_in_N = refl;
            embedded_in_M = refl;
            object_steps = refl;
          };
      scan = tt;
    }

pub start_kept : (s : Shape) → Kept s (start s)
start_kept s =
    record {
      words_long = length-replicate (words_of s) 0;
      locals_long = length-replicate s.callers fresh;
      agree = λ i low. subst (λ (l : Local). Agrees s (start s).words i l)
          (sym (get_or-replicate_default s.callers i fresh)) (fresh_agrees s i);
    }

-- each world after possible steps has what every reachable world has
pub steps_kept : (s : Shape) (w : World) (steps : List Step) → Kept s w
    → IsTrue (are_possible s w steps) → Kept s (after_all s w steps)
steps_kept s w [] h may = h
steps_kept s w (step ∷ steps) h may =
    let parts = and_parts (is_possible s w step) (are_possible s (after s w step) steps) may in
    steps_kept s (after s w step) steps (step_kept s w step h parts.0) parts.1

-- the world after two lists of steps in a row is the one after the second list from the world after
-- the first
pub after_all-append : (s : Shape) (w : World) (xs ys : List Step)
    → after_all s w (xs ++ ys) ≡ after_all s (after_all s w xs) ys
after_all-append s w [] ys = refl
after_all-append s w (x ∷ xs) ys = after_all-append s (after s w x) xs ys

pub are_possible-append : (s : Shape) (w : World) (xs ys : List Step)
    → are_possible s w (xs ++ ys) ≡ (are_possible s w xs && are_possible s (after_all s w xs) ys)
are_possible-append s w [] ys = refl
are_possible-append s w (x ∷ xs) ys = ap (λ b. is_possible s w x && b)
    (are_possible-append s (after s w x) xs ys) ∙ sym (and_assoc (is_possible s w x) _ _)

-- An event never lowers a count of its own caller.
count_grows_by : (s : Shape) (me : ℕ) (l : Local) (words : List ℕ) (e : Event) → me < s.callers
    → words_of s ≤ length words → Agrees s words me l → (r : Region)
    → slice_index words (count_index s.callers r me)
    ≤ slice_index (words_after s me l words e) (count_index s.callers r me)
count_grows_by s me l words (Stage q t x) low long h r =
    omega (
      arith,
      get_or-set_other words (place_index s.callers s.cap q me (own_count l q) t)
          (count_index s.callers r me) x 0
          (count_or_row s.callers s.cap r q me me (own_count l q) t low),
    )
count_grows_by s me l words Announce low long h N =
    omega (arith, announced_counts s me l words low long h N, h.counts N)
count_grows_by s me l words Announce low long h M =
    omega (arith, announced_counts s me l words low long h M, h.counts M)
count_grows_by s me l words Publish low long h N =
    omega (arith, published_counts s me l words low long h N, h.counts N)
count_grows_by s me l words Publish low long h M =
    omega (arith, published_counts s me l words low long h M, h.counts M)
count_grows_by s me l words (Object o) low long h r =
    omega (
      arith,
      get_or-set_other words (object_index s.callers s.cap o.place)
          (count_index s.callers r me) o.new 0 (count_or_object s.callers s.cap r me o.place low),
    )
count_grows_by s me l words (Look q j x o) low long h r = omega arith
count_grows_by s me l words (Peek q j m t x) low long h r = omega arith

-- No count falls at a step.
own_count_grows : (s : Shape) (w : World) (step : Step) → Kept s w → Possible s w step
    → (r : Region)
    → count_of s w r step.who ≤ count_of s (after s w step) r step.who
own_count_grows s w step h p r = count_grows_by s step.who (local_of w step.who) w.words step.event
    p.caller (omega (arith, h.words_long)) (h.agree step.who p.caller) r

pub step_grows : (s : Shape) (w : World) (step : Step) → Kept s w → IsTrue (is_possible s w step)
    → (r : Region) (i : ℕ) → i < s.callers
    → count_of s w r i ≤ count_of s (after s w step) r i
step_grows s w step h may r i low =
    let p = possible s w step may in
    elim (cases_eq i step.who) [
      | inl here ↦ subst (λ (j : ℕ). count_of s w r j ≤ count_of s (after s w step) r j) (sym here)
          (own_count_grows s w step h p r)
      | inr away ↦ omega (
        arith,
        count_kept s step.who (local_of w step.who) w.words step.event p.caller r i low away,
      )
    ]

-- no row below its count changes at a step
pub step_stays : (s : Shape) (w : World) (step : Step) → Kept s w → IsTrue (is_possible s w step)
    → (r : Region) (i k place : ℕ) → i < s.callers
    → k < count_of s w r i → place < places s.callers r
    → row_word s (after s w step) r i k place ≡ row_word s w r i k place
step_stays s w step h may r i k place low below fits =
    let p = possible s w step may in
    let agrees = h.agree i low in
    let counted : k < own_count (local_of w i) r = omega (arith, agrees.counts r) in
    row_kept s step.who (local_of w step.who) w.words step.event p.caller p.allowed r i k place low
    (omega (arith, own_few s w.words i (local_of w i) agrees r)) fits
    (λ same. subst (λ (j : ℕ). k < own_count (local_of w j) r) same counted)

-- counts never fall along possible steps, and no row below its count changes
pub steps_grow : (s : Shape) (w : World) (steps : List Step) → Kept s w
    → IsTrue (are_possible s w steps) → (r : Region) (i : ℕ) → i < s.callers
    → count_of s w r i ≤ count_of s (after_all s w steps) r i
steps_grow s w [] h may r i low = omega arith
steps_grow s w (step ∷ steps) h may r i low =
    let parts = and_parts (is_possible s w step) (are_possible s (after s w step) steps) may in
    let first : count_of s w r i ≤ count_of s (after s w step) r i =
    step_grows s w step h parts.0 r i low in
    let rest : count_of s (after s w step) r i
    ≤ count_of s (after_all s (after s w step) steps) r i =
    steps_grow s (after s w step) steps (step_kept s w step h parts.0) parts.1 r i low in
    omega (arith, first, rest)

pub steps_stay : (s : Shape) (w : World) (steps : List Step) → Kept s w
    → IsTrue (are_possible s w steps) → (r : Region) (i k place : ℕ) → i < s.callers
    → k < count_of s w r i → place < places s.callers r
    → row_word s (after_all s w steps) r i k place ≡ row_word s w r i k place
steps_stay s w [] h may r i k place low below fits = refl
steps_stay s w (step ∷ steps) h may r i k place low below fits =
    let parts = and_parts (is_possible s w step) (are_possible s (after s w step) steps) may in
    let grows : count_of s w r i ≤ count_of s (after s w step) r i =
    step_grows s w step h parts.0 r i low in
    steps_stay s (after s w step) steps (step_kept s w step h parts.0) parts.1 r i k place low
    (omega (arith, grows)) fits
    ∙ step_stays s w step h parts.0 r i k place low below fits

-- What the steps of other callers leave unchanged for a caller.
pub record IsLeft (s : Shape) (w v : World) (i : ℕ) : Type 0 where
  pub counts : (r : Region) → count_of s v r i ≡ count_of s w r i
  pub rows : (r : Region) (k place : ℕ) → k < s.cap → place < places s.callers r
      → row_word s v r i k place ≡ row_word s w r i k place
  pub local : local_of v i ≡ local_of w i

other_left : (s : Shape) (w : World) (step : Step) → IsTrue (is_possible s w step) → (i : ℕ)
    → i < s.callers → i ≢ step.who → IsLeft s w (after s w step) i
other_left s w step may i low away =
    let p = possible s w step may in
    record {
      counts =
          λ r. count_kept s step.who (local_of w step.who) w.words step.event p.caller r i low away;
      rows = λ r k place a fits.
          row_kept s step.who (local_of w step.who) w.words step.event p.caller p.allowed r i k
          place low a fits (λ same. absurd (away same));
      local = other_local s w step i away;
    }

pub others_left : (s : Shape) (w : World) (steps : List Step) → IsTrue (are_possible s w steps)
    → (i : ℕ) → i < s.callers → IsTrue (are_of_others i steps)
    → IsLeft s w (after_all s w steps) i
others_left s w [] may i low others =
    record { counts = λ r. refl; rows = λ r k place a fits. refl; local = refl }
others_left s w (step ∷ steps) may i low others =
    let parts = and_parts (is_possible s w step) (are_possible s (after s w step) steps) may in
    let apart = and_parts (not (step.who == i)) (are_of_others i steps) others in
    let away : i ≢ step.who =
    λ e. eqb-false step.who i (not-true (step.who == i) apart.0) (sym e) in
    let first = other_left s w step parts.0 i low away in
    let rest = others_left s (after s w step) steps parts.1 i low apart.1 in
    record {
      counts = λ r. rest.counts r ∙ first.counts r;
      rows = λ r k place a fits. rest.rows r k place a fits ∙ first.rows r k place a fits;
      local = rest.local ∙ first.local;
    }

-- A run is a run up to some moment, and possible steps from there.
pub record GoesOn (s : Shape) (before later : List Step) : Type 0 where
  pub kept : Kept s (end_of s before)
  pub may : IsTrue (are_possible s (end_of s before) later)
  pub at : end_of s (before ++ later) ≡ after_all s (end_of s before) later

pub goes_on : (s : Shape) (before later : List Step) → IsRun s (before ++ later)
    → GoesOn s before later
goes_on s before later run =
    let parts = and_parts (are_possible s (start s) before) (are_possible s (end_of s before) later)
    (sym (are_possible-append s (start s) before later) ∙ run) in
    record {
      kept = steps_kept s (start s) before (start_kept s) parts.0;
      may = parts.1;
      at = after_all-append s (start s) before later;
    }

-- the laws that `specs` states, from what is proved above
pub counts_never_fall : CountsNeverFall
counts_never_fall s before later r i run low =
    let on = goes_on s before later run in
    subst (λ (v : World). count_of s (end_of s before) r i ≤ count_of s v r i) (sym on.at)
    (steps_grow s (end_of s before) later on.kept on.may r i low)

pub counted_rows_stay : CountedRowsStay
counted_rows_stay s before later r i k place run low below fits =
    let on = goes_on s before later run in
    ap (λ (v : World). row_word s v r i k place) on.at
    ∙ steps_stay s (end_of s before) later on.kept on.may r i k place low below fits

left : (s : Shape) (before later : List Step) (i : ℕ) → IsRun s (before ++ later) → i < s.callers
    → IsTrue (are_of_others i later)
    → IsLeft s (end_of s before) (end_of s (before ++ later)) i
left s before later i run low others =
    let on = goes_on s before later run in
    subst (λ (v : World). IsLeft s (end_of s before) v i) (sym on.at)
    (others_left s (end_of s before) later on.may i low others)

pub counts_are_own : CountsAreOwn
counts_are_own s before later r i run low others = (left s before later i run low others).counts r

pub rows_are_own : RowsAreOwn
rows_are_own s before later r i k place run low others a fits =
    (left s before later i run low others).rows r k place a fits

pub locals_are_own : LocalsAreOwn
locals_are_own s before later i run low others = (left s before later i run low others).local

pub locals_agree : LocalsAgree
locals_agree s steps i run low = (steps_kept s (start s) steps (start_kept s) run).agree i low

pub start_is_reachable : StartIsReachable
start_is_reachable s = ([], refl, refl)

pub steps_reach : StepsReach
steps_reach s w step (steps, run, at) may =
    let may' : are_possible s (end_of s steps) (step ∷ []) ≡ true =
    subst (λ (v : World). are_possible s v (step ∷ []) ≡ true) (sym at)
    (and_from (is_possible s w step) true may refl) in (
      steps ++ step ∷ [],
      are_possible-append s (start s) steps (step ∷ []) ∙ and_from (are_possible s (start s) steps)
          (are_possible s (end_of s steps) (step ∷ [])) run may',
      after_all-append s (start s) steps (step ∷ []) ∙ ap (λ (v : World). after s v step) at,
    )
