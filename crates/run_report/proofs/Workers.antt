-- What callers that are back on their bench leave is what workers leave.
use Rattle.std.proofs.Common.{◌≡◌, ◌∙◌, sym, subst, ap, refl, ℕ, zero, suc, ◌%◌, ◌<◌, false, List, [], ◌∷◌, Some, None, length, map, arith, slice_get, slice_index}
use Rattle.std.specs.Prelude.{Option, Result, Ok, Err, slice_index_or, IfSome, IfOk}
use Rattle.std.proofs.lemmas.Option.{none-some, same_Some, slice_get_within, get_or_from_slice_get}
use Rattle.seq_objects.specs.declared.kind.Kind.{Kind}
use Rattle.world_core.specs.Shape.{Meaning}
use Rattle.world_core.specs.Local.{Local, fresh}
use Rattle.world_core.specs.Calls.{Made, calls_in, local_at}
use Rattle.report_lines.specs.declared.line.Line.{Line}
use Rattle.report_lines.specs.Lines.{made_of, lines_at, any_error}
use Rattle.report_lines.specs.Phases.{IsTold, asked}
use Rattle.report_lines.specs.Allotments.{operations_at, phases_of}
use Rattle.report_lines.specs.Workers.{HasWorked}
use Rattle.report_lines.specs.Working.{HaveWorked}
use Rattle.row_table.specs.Holders.{has}
use Rattle.row_table.specs.Seats.{View, the}
use Rattle.row_table.specs.declared.rows.Rows.{Rows}
use Rattle.row_table.specs.declared.bench.Bench.{Bench}
use Rattle.row_table.specs.declared.stance.Stance.{Stance}
use Rattle.row_table.specs.Callers.{shape_of, locals_on, IsBenchOf}
use Rattle.reports.specs.Findings.{Findings}
use Rattle.client_calls.specs.Asking.{Fits, PassCount, fits_own, own_count}
use Rattle.client_calls.specs.Ends.{SaysJudged}
use Rattle.client_calls.specs.Finishing.{KeepsAsked}
use Rattle.client_calls.proofs.Told.{if_some_as}
use Rattle.client_calls.proofs.Worked.{judging_clients_have_worked}
use Rattle.run_report.specs.Reporting.{IsFreeAgain, IsToldIn, IsCountIn, IsCountedIn}
use Rattle.run_report.specs.Places.{AreInOrder}
use Rattle.run_report.specs.Starts.{RunCourse, MayBegin, AreFreshPasses}
use Rattle.client_scripts.specs.Plans.{Plan}
use Rattle.run_report.specs.Passes.{IsOwnPass, IsUnusedPass, AreUnusedPasses}
use Rattle.run_report.specs.Returns.{IsCountOf, IsBack, AreBack, IsBackOn, HaveReturned, HaveReturnedOutside}

-- the local that a view has of a caller is at this caller's place among the view's locals
pub the_local : (v : View) (i : ℕ) (l : Local) → has v i ≡ Some l
    → slice_index_or (map the v) i fresh ≡ l
the_local [] i l here = absurd (none-some l here)
the_local (x ∷ v) zero l here = ap the here
the_local (x ∷ v) (suc i) l here = the_local v i l here

-- the list that is at place i of all lines is the lines of caller i
pub lines_here : (lines : List (List Line)) (i : ℕ) (own : List Line) → slice_get lines i ≡ Some own
    → lines_at lines i ≡ own
lines_here lines i own here = get_or_from_slice_get lines i own [] here

module _ {P T : Type 0} (meaning : P → ℕ → ℕ → Meaning) (r : Rows P) (fit : Fits T)
    (count : T → Option PassCount) (course : RunCourse) (b : Bench P) (passes : List T)
    (lines : List (List Line)) where
  -- each caller has worked
  has_worked : (i : ℕ) → IsBack meaning r SaysJudged fit count course b passes lines false i
      → HasWorked course.object r.callers (operations_at course.operations i)
      (slice_index course.allotments i) (local_at (locals_on b) i) (lines_at lines i)
  has_worked i h =
      let n : ℕ = r.callers in
      subst (λ (l : Local). HasWorked course.object n
      (operations_at course.operations i) (slice_index course.allotments i) l (lines_at lines i))
      (sym (the_local b.seat.me.0 i h.on.local h.on.here))
      (subst (λ (own : List Line). HasWorked course.object n
      (operations_at course.operations i) (slice_index course.allotments i) h.on.local own)
      (sym (lines_here lines i h.own h.lines_here))
      (judging_clients_have_worked course.object n (operations_at course.operations i)
      (slice_index course.allotments i) h.on.local h.own (h.left refl).left))

  -- all callers have worked
  pub have_worked : (n : ℕ) → r.callers ≡ n → length lines ≡ n
      → AreBack meaning r SaysJudged fit count n n course b passes lines false → HaveWorked
      course.object (shape_of meaning r) course.operations course.allotments (locals_on b) lines
  have_worked n callers long h = record {
    callers = long ∙ sym callers;
    worked = λ i low. has_worked i (h.back i (omega (arith, low, callers)));
  }

  -- a caller that is back made the phases that its lines determine
  phases_are : (i : ℕ) (h : IsBack meaning r SaysJudged fit count course b passes lines false i)
      → h.on.phases ≡ phases_of (slice_index course.allotments i) (lines_at lines i)
  phases_are i h =
      (h.left refl).is ∙ ap (λ (own : List Line). phases_of (slice_index course.allotments i) own)
      (sym (lines_here lines i h.own h.lines_here))

  -- the call under way of a caller that is back is as its last phase left it
  pub keeps_asked : (i : ℕ) → IsBack meaning r SaysJudged fit count course b passes lines false i
      → KeepsAsked (shape_of meaning r).program i
      (phases_of (slice_index course.allotments i) (lines_at lines i)) (local_at (locals_on b) i)
  keeps_asked i h =
      subst (λ (l : Local). KeepsAsked (shape_of meaning r).program i
      (phases_of (slice_index course.allotments i) (lines_at lines i)) l)
      (sym (the_local b.seat.me.0 i h.on.local h.on.here))
      (subst (λ (p : ℕ). KeepsAsked (shape_of meaning r).program i p h.on.local)
      (phases_are i h) h.on.back.asked)

  -- a caller that is back, without an error and between two calls, is free for its next call
  pub free_again : (kind : Kind) (i : ℕ)
      → IsBack meaning r SaysJudged fit count course b passes lines false i
      → IsFreeAgain b course.allotments (record { kind = kind; lines = lines }) i
  free_again kind i h none between =
      let own : lines_at lines i ≡ h.own = lines_here lines i h.own h.lines_here in
      let fine : any_error h.own ≡ false = ap (λ (o : List Line). any_error o) (sym own) ∙ none in
      let whole : h.on.phases % 5 ≡ 0 = ap (λ (p : ℕ). p % 5) (phases_are i h) ∙ between in
      h.on.stands.here ∙ ap (λ (s : Stance). Some s) (h.free refl fine whole)

  -- the object was asked for the calls that the lines determine
  pub told_in : (kind : Kind) (i : ℕ) (pass : T) → slice_get passes i ≡ Some pass
      → IsBack meaning r SaysJudged fit count course b passes lines false i
      → IsCountedIn count course.allotments (record { kind = kind; lines = lines }) i pass
  told_in kind i pass there h =
      let findings : Findings = record { kind = kind; lines = lines } in
      let mine : h.on.pass ≡ pass = same_Some h.on.pass pass (sym h.on.pass_here ∙ there) in
      let own : lines_at lines i ≡ h.own = lines_here lines i h.own h.lines_here in
      let left = h.left refl in
      let phases = phases_are i h in
      let calls : calls_in h.on.local ≡ map made_of (lines_at lines i) =
      sym (judging_clients_have_worked course.object r.callers (operations_at course.operations i)
      (slice_index course.allotments i) h.on.local h.own left.left).calls
      ∙ ap (λ (o : List Line). map made_of o) (sym own) in
      subst (λ (p : T). IfSome (count p) (IsCountIn course.allotments findings i)) mine
      (if_some_as (count h.on.pass) (IsCountOf h.on.phases h.on.local)
      (IsCountIn course.allotments findings i)
      (λ (c : PassCount) (k : IsCountOf h.on.phases h.on.local c). record {
        asked_for = k.asked_for ∙ ap asked phases;
        told_is =
            subst (λ (q : ℕ). IfSome c.told (IsTold q (map made_of (lines_at lines i)))) phases
            (subst (λ (cs : List Made). IfSome c.told (IsTold h.on.phases cs)) calls k.told_is);
      }) h.on.back.counts)

-- a run over rows that have just a plan's callers has come back once these are on their bench
pub have_returned : {P T : Type 0} (meaning : P → ℕ → ℕ → Meaning) (r : Rows P) (fit : Fits T)
    (count : T → Option PassCount) (plan : Plan) (allotments : List ℕ) (first b : Bench P)
    (passes : List T)
    → MayBegin meaning plan 0 r first → IsBenchOf meaning r b
    → length passes ≡ length plan.operations → ((i : ℕ) → i < length plan.operations
    → IsBackOn meaning r fit count plan.operations allotments b passes i)
    → HaveReturned meaning r fit count plan allotments b passes
have_returned meaning r fit count plan allotments first b passes begins of all back = record {
  bench = (
    of,
    λ i low. let h = back i (omega (arith, low, of.callers, begins.callers)) in (h.local, h.here),
  );
  all_passes = all;
  back = back;
}

-- where as many pairs are told as calls were made, and none was made, none are told
none_told : (told : Option (List (ℕ × ℕ)))
    → ((pairs : List (ℕ × ℕ)) → told ≡ Some pairs → length pairs ≡ 0)
    → IfSome told (λ pairs. pairs ≡ [])
none_told None as_many = tt
none_told (Some []) as_many = refl
none_told (Some (pair ∷ pairs)) as_many = absurd (omega (arith, as_many (pair ∷ pairs) refl))

-- unused passes are fresh
pub fresh_passes : {P T : Type 0} (r : Rows P) (is_own : T → Type 0) (caller made cap : T → ℕ)
    (told : T → Option (List (ℕ × ℕ))) (operations : List (List ℕ)) (passes : List T)
    → ((pass : T) (pairs : List (ℕ × ℕ)) → is_own pass → told pass ≡ Some pairs
    → length pairs ≡ made pass)
    → AreUnusedPasses is_own caller made cap operations passes
    → AreFreshPasses r (fits_own is_own caller) (own_count made cap told) operations passes
fresh_passes r is_own caller made cap told operations passes tells unused = record {
  as_many = unused.as_many;
  each = λ i pass there.
      let h = unused.each i pass there in
      record {
        fits_caller = (h.own, h.of);
        counts = record {
          none = h.none;
          has_capacity = h.enough;
          silent = none_told (told pass) (λ pairs is. tells pass pairs h.own is ∙ h.none);
        };
      };
}

-- unused passes are the object's own
pub unused_own : {T : Type 0} (is_own : T → Type 0) (caller made cap : T → ℕ)
    (operations : List (List ℕ)) (passes : List T)
    → AreInOrder (IsUnusedPass is_own caller made cap operations) passes
    → AreInOrder (IsOwnPass is_own caller) passes
unused_own is_own caller made cap operations passes unused i pass there =
    let h = unused i pass there in
    record { own = h.own; of = h.of }

-- each pass of an object outside the world that is back is the object's own
pub returned_outside : {P T : Type 0} (meaning : P → ℕ → ℕ → Meaning) (r : Rows P)
    (is_own : T → Type 0) (caller made cap : T → ℕ) (told : T → Option (List (ℕ × ℕ))) (plan : Plan)
    (allotments : List ℕ) (b : Bench P) (passes : List T)
    → HaveReturned meaning r (fits_own is_own caller) (own_count made cap told) plan allotments b
    passes
    → HaveReturnedOutside meaning r is_own caller made cap told plan allotments b passes
returned_outside meaning r is_own caller made cap told plan allotments b passes run = record {
  run = run;
  own = λ i pass there.
      let h = run.back i (omega (arith, run.all_passes, slice_get_within passes i pass there)) in
      let mine : h.pass ≡ pass = same_Some h.pass pass (sym h.pass_here ∙ there) in
      record {
        own = subst is_own mine h.back.fits_caller.0;
        of = subst (λ (p : _). caller p ≡ i) mine h.back.fits_caller.1;
      };
}

pub if_ok_as : {X E : Type 0} (result : Result X E) (A B : X → Type 0) → ((x : X) → A x → B x)
    → IfOk result A → IfOk result B
if_ok_as (Ok x) A B turns h = turns x h
if_ok_as (Err e) A B turns h = h

-- what the passes of an object outside the world count is what they tell
pub counted_told : {T : Type 0} (made cap : T → ℕ) (told : T → Option (List (ℕ × ℕ)))
    (allotments : List ℕ) (findings : Findings) (passes : List T)
    → AreInOrder (IsCountedIn (own_count made cap told) allotments findings) passes
    → AreInOrder (IsToldIn made told allotments findings) passes
counted_told made cap told allotments findings passes all i pass there =
    let h = all i pass there in
    record { asked_for = h.asked_for; told_is = h.told_is }
