-- Clients that are finished, and their callers back on the bench.
use Rattle.std.proofs.Common.{◌≡◌, ◌≢◌, ◌∙◌, sym, subst, ap, refl, inl, inr, ℕ, ◌+◌, ◌<◌, ◌≤◌, Bool, false, List, [], ◌∷◌, ◌++◌, Some, length, slice_index, arith}
use Rattle.std.specs.Prelude.{Option}
use Rattle.std.proofs.lemmas.Bool.{cases_lt}
use Rattle.std.proofs.lemmas.Option.{same_Some}
use Rattle.book_base.specs.SeqSpec.{SeqSpec}
use Rattle.world_core.specs.Local.{Local, Object_step}
use Rattle.world_core.specs.CallSteps.{all_steps_of}
use Rattle.report_lines.specs.declared.line.Line.{Line}
use Rattle.row_table.specs.declared.bench.Bench.{Bench}
use Rattle.client_calls.specs.declared.stand.CallerState.{CallerState}
use Rattle.client_calls.specs.declared.stand.CallerState.TheVariants.{Idle, Announced, Answered, Viewed, Published, Halted, Unjudged}
use Rattle.client_calls.specs.Stands.{phases_at}
use Rattle.client_calls.specs.Clients.{Spent, HasSpent, phases_by, Says}
use Rattle.client_calls.specs.Asking.{Fits, PassCount, FitsCaller}
use Rattle.client_calls.specs.declared.client.Client.{Client}
use Rattle.client_calls.proofs.Told.{if_some_as}
use Rattle.world_core.specs.Shape.{Meaning}
use Rattle.world_core.specs.Calls.{Made, calls_in}
use Rattle.report_lines.specs.Phases.{Progress, IsProgressAfter, IsTold}
use Rattle.report_lines.specs.Allotments.{operations_at}
use Rattle.row_table.specs.declared.rows.Rows.{Rows}
use Rattle.row_table.specs.Benches.{fresh_stance}
use Rattle.row_table.specs.declared.caller.Caller.{Caller}
use Rattle.row_table.specs.Callers.{who_of, local_with, on_bench, stance_on, IsCallerOf}
use Rattle.run_report.specs.Work.{IsReady, HasRun}
use Rattle.client_scripts.specs.Plans.{Plan}
use Rattle.run_report.specs.Starts.{RunCourse, MayStart, IsNewCount, AreFreshPasses, IsClientOf, IsStart}
use Rattle.run_report.proofs.Places.{still_at, item_at}
use Rattle.run_report.proofs.Starts.{no_phase}
use Rattle.run_report.specs.Returns.{IsSpent, IsCountOf, IsBackOn, IsBack, AreBack}
use Rattle.run_report.specs.declared.worker.Worker.{Worker}

-- no more phases were made than were given
pub spent_within : {P : Type 0} (allotment lines : ℕ) (s : CallerState P) → Spent allotment lines s
    → phases_at lines s ≤ allotment
spent_within allotment lines (Idle c) is = omega (arith, is)
spent_within allotment lines (Announced a) is = omega (arith, is)
spent_within allotment lines (Answered a) is = omega (arith, is)
spent_within allotment lines (Viewed v) is = omega (arith, is)
spent_within allotment lines (Published p) is = omega (arith, is)
spent_within allotment lines (Halted c) is = omega (arith, is)
spent_within allotment lines (Unjudged u) is = omega (arith, is)

module _ {P T : Type 0} (meaning : P → ℕ → ℕ → Meaning) (r : Rows P) (says : Says) (fits : Fits T)
    (count : T → Option PassCount) (n : ℕ) (course : RunCourse) where
  abbrev Are : ℕ → Bench P → List T → List (List Line) → Bool → Type 0
  Are k b passes lines wanted = AreBack meaning r says fits count n k course b passes lines wanted

  -- the callers that were back are still back, with one more
  pub one_more_back : (b c : Bench P) (passes passes' : List T) (lines lines' : List (List Line))
      (wanted wanted' one : Bool) (k j more : ℕ) (pass : T) (own : List Line)
      → j ≡ k → more ≡ k + 1 → (wanted' ≡ false → (wanted ≡ false) × (one ≡ false))
      → passes' ≡ passes ++ pass ∷ [] → lines' ≡ lines ++ own ∷ []
      → Are k b passes lines wanted → IsBack meaning r says fits count course c passes' lines' one j
      → ((i : ℕ) → i ≢ j → (on_bench c i ≡ on_bench b i) × (stance_on c i ≡ stance_on b i))
      → Are more c passes' lines' wanted'
  one_more_back b c passes passes' lines lines' wanted wanted' one k j more pass own at next weaker
      pass_put lines_put all come others = record {
        back = λ i low.
            elim (cases_lt i k) [
              | inr high ↦
                  let same : j ≡ i = omega (arith, at, next, low, high) in
                  subst
                  (λ (m : ℕ). IsBack meaning r says fits count course c passes' lines' wanted' m)
                  same
                  (record {
                    on = come.on;
                    own = come.own;
                    lines_here = come.lines_here;
                    free = λ none. come.free (weaker none).1;
                    left = λ none. come.left (weaker none).1;
                  })
              | inl old ↦
                  let h = all.back i old in
                  let other = others i (λ same. omega (arith, at, old, same)) in
                  record {
                    on = record {
                      local = h.on.local;
                      pass = h.on.pass;
                      phases = h.on.phases;
                      here = other.0 ∙ h.on.here;
                      pass_here = still_at passes passes' pass h.on.pass i pass_put h.on.pass_here;
                      back = h.on.back;
                      stands = record {
                        stance = h.on.stands.stance;
                        here = other.1 ∙ h.on.stands.here;
                        standing = h.on.stands.standing;
                      };
                    };
                    own = h.own;
                    lines_here = still_at lines lines' own h.own i lines_put h.lines_here;
                    free = λ none. h.free (weaker none).0;
                    left = λ none. h.left (weaker none).0;
                  }
            ];
        gone = λ i high within. (others i (λ same. omega (arith, at, next, high, same))).0
            ∙ all.gone i (omega (arith, next, high)) within;
      }

  -- all callers are back
  pub all_back : (b : Bench P) (passes : List T) (lines : List (List Line)) (wanted : Bool) (k : ℕ)
      → k ≡ n → wanted ≡ false → Are k b passes lines wanted → Are n b passes lines false
  all_back b passes lines wanted k all none h = subst (λ (w : Bool). Are n b passes lines w) none
      (subst (λ (m : ℕ). Are m b passes lines wanted) all h)

-- a pass that fits a caller fits it by what is known of the caller
pub fits_back : {P T : Type 0} (meaning : P → ℕ → ℕ → Meaning) (r : Rows P) (fits : Fits T)
    (c : Caller P) (l : Local) (pass pass' : T) (who : ℕ) → IsCallerOf meaning r c → who_of c ≡ who
    → l ≡ local_with c → pass' ≡ pass → FitsCaller fits pass c
    → fits r.callers r.cap pass' who (all_steps_of l)
fits_back meaning r fits c l pass pass' who caller number same is h =
    rw (← caller.callers, ← caller.cap, ← number, same, is) h

module _ {P T E : Type 0} (meaning : P → ℕ → ℕ → Meaning) (r : Rows P) (says : Says)
    (object : E → SeqSpec) (fits : Fits T) (count : T → Option PassCount) (course : RunCourse) where
  -- the client of a worker that has spent its phases
  pub spent_client : (i : ℕ) (w : Worker P T E) (c : Client P T E)
      → IsSpent meaning r says object fits count course i w → w.client ≡ Some c
      → IsClientOf meaning r says object fits count course c.sheet.who c
      × HasSpent (slice_index course.allotments c.sheet.who) c × (c.sheet.who ≡ i)
  spent_client i w c h here =
      let same : h.client ≡ c = same_Some h.client c (sym h.here ∙ here) in
      let of : IsClientOf meaning r says object fits count course i c = subst
      (λ (d : Client P T E). IsClientOf meaning r says object fits count course i d) same h.of in
      let spent : HasSpent (slice_index course.allotments i) c =
      subst (λ (d : Client P T E). HasSpent (slice_index course.allotments i) d) same h.spent in (
        subst (λ (k : ℕ). IsClientOf meaning r says object fits count course k c) (sym of.who) of,
        subst (λ (k : ℕ). HasSpent (slice_index course.allotments k) c) (sym of.who) spent,
        of.who,
      )

  -- a worker that was ready and ran has spent its phases
  pub start_spent : (i : ℕ) (w d : Worker P T E)
      → IsStart meaning r says object fits count course i w
      → HasRun meaning r says object fits count w d
      → IsSpent meaning r says object fits count course i d
  start_spent i w d start ran =
      let same : start.client ≡ ran.before =
      same_Some start.client ran.before (sym start.here ∙ ran.was) in
      let none : phases_by ran.before ≡ 0 =
      ap (λ (c : Client P T E). phases_by c) (sym same) ∙ start.none in
      let all : phases_by ran.before + w.allotment ≡ slice_index course.allotments i =
      omega (arith, none, start.allotment) in
      record {
        client = ran.after;
        here = ran.is;
        of = record {
          work = ran.work;
          who = ran.same.who ∙ ap (λ (c : Client P T E). c.sheet.who) (sym same) ∙ start.of.who;
          operations = ran.same.operations
              ∙ ap (λ (c : Client P T E). c.sheet.operations.now) (sym same) ∙ start.of.operations;
          judges = ran.same.judges ∙ ap (λ (c : Client P T E). object c.sheet.ending) (sym same)
              ∙ start.of.judges;
        };
        spent = subst (λ (a : ℕ). HasSpent a ran.after) all ran.spent;
      }

  -- a worker at its start is ready to run
  pub start_ready : (serves : Type 0) (i : ℕ) (w : Worker P T E) → serves
      → IsStart meaning r says object fits count course i w
      → IsReady meaning r says object fits count serves w
  start_ready serves i w served start = record {
    served = served;
    client = start.client;
    here = start.here;
    work = start.of.work;
    goes = start.goes;
    left = omega (arith, start.none, start.within);
  }

module _ {P T : Type 0} where
  -- callers that made no call are back as they were
  pub unused_back : (meaning : P → ℕ → ℕ → Meaning) (r : Rows P) (fits : Fits T)
      (count : T → Option PassCount) (plan : Plan) (allotments : List ℕ) (b : Bench P)
      (passes : List T)
      → MayStart meaning plan r b → AreFreshPasses r fits count plan.operations passes → (i : ℕ)
      → i < length plan.operations
      → IsBackOn meaning r fits count plan.operations allotments b passes i
  unused_back meaning r fits count plan allotments b passes starts fresh i low =
      let unused = starts.unused i low in
      let here = item_at passes i (omega (arith, low, fresh.as_many)) in
      let free = fresh.each i here.0 here.1 in
      let calls : calls_in unused.local ≡ [] = ap (λ (p : Progress). p.calls) unused.none in
      record {
        local = unused.local;
        pass = here.0;
        phases = 0;
        here = unused.here;
        pass_here = here.1;
        back = record {
          fits_caller = subst (λ (steps : List Object_step). fits r.callers r.cap here.0 i steps)
              (sym (ap (λ (p : Progress). p.steps) unused.none)) free.fits_caller;
          within = omega arith;
          phases = subst (λ (p : Progress). IsProgressAfter (operations_at plan.operations i) 0 p)
              (sym unused.none) (no_phase (operations_at plan.operations i));
          asked = record {
            unasked = λ e. absurd (omega (arith, e));
            asked = λ e. absurd (omega (arith, e));
          };
          counts = if_some_as (count here.0) (IsNewCount (length (operations_at plan.operations i)))
              (IsCountOf 0 unused.local)
              (λ k h. record {
                asked_for = h.none;
                told_is = if_some_as k.told (λ pairs. pairs ≡ []) (IsTold 0 (calls_in unused.local))
                    (λ pairs none.
                    subst (λ (ps : List (ℕ × ℕ)). IsTold 0 (calls_in unused.local) ps) (sym none)
                    (subst (λ (cs : List Made). IsTold 0 cs []) (sym calls)
                    (record { operations = refl; replies = refl }))) h.silent;
              }) free.counts;
        };
        stands = record {
          stance = fresh_stance;
          here = unused.stance;
          standing = record {
            within = λ other. absurd (other refl);
            between = λ live. (unused.idle, refl);
          };
        };
      }
