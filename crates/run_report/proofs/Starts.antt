-- Callers that have made no phase, their clients, and what a script gives them.
use Rattle.std.proofs.Common.{◌≡◌, ◌≢◌, ◌∙◌, sym, subst, ap, refl, inl, inr, ℕ, zero, suc, ◌+◌, ◌*◌, ◌<◌, ◌≤◌, List, [], ◌∷◌, Some, None, length, slice_index, arith}
use Rattle.std.specs.Prelude.{Option, IfSome}
use Rattle.std.proofs.lemmas.Bool.{cases_lt}
use Rattle.std.proofs.lemmas.Option.{same_Some}
use Rattle.std.proofs.lemmas.List.FromFn.{get_or-map-range_with_len}
use Rattle.book_base.specs.SeqSpec.{SeqSpec}
use Rattle.world_core.specs.Shape.{Meaning}
use Rattle.world_core.specs.Local.{Local, Object_step, IsIdle, fresh}
use Rattle.world_core.specs.CallSteps.{all_steps_of}
use Rattle.world_core.specs.Calls.{Made}
use Rattle.report_lines.specs.declared.line.Line.{Line}
use Rattle.report_lines.specs.Phases.{Progress, no_progress, IsProgressAfter, IsTold, progress_of, asked}
use Rattle.report_lines.specs.Allotments.{phases_for, stop_at, operations_at, allotments_of}
use Rattle.row_table.specs.declared.caller.Caller.{Caller}
use Rattle.row_table.specs.declared.rows.Rows.{Rows}
use Rattle.row_table.specs.declared.bench.Bench.{Bench}
use Rattle.row_table.specs.Benches.{fresh_stance}
use Rattle.row_table.specs.Callers.{local_with, stance_of, who_of, on_bench, stance_on, IsCallerOf, IsBenchOf}
use Rattle.row_gather.specs.Gathered.{IsGatheredBy}
use Rattle.text_fields.specs.Counts.{AreAtMost}
use Rattle.client_scripts.specs.Plans.{Plan, AreStops, sizes}
use Rattle.client_calls.specs.declared.stand.CallerState.TheVariants.{Idle}
use Rattle.client_calls.specs.Asking.{Fits, PassCount, FitsCaller}
use Rattle.client_calls.specs.Course.{HasCome, HasTold, HasAskedFor, HasCounted, Counts}
use Rattle.client_calls.proofs.Told.{if_some_as}
use Rattle.client_calls.specs.Clients.{Says}
use Rattle.client_calls.specs.Keeping.{KeepsStanding}
use Rattle.client_calls.specs.declared.sheet.Sheet.{Sheet}
use Rattle.client_calls.specs.declared.client.Client.{Client}
use Rattle.run_report.specs.Starts.{run_allotments, course_of, HaveCapacityFor, IsFresh, IsUnused, MayBegin, HoldsBelow, IsCapacityFor, IsNewCount, IsFreshPass, IsStart}

-- a caller without calls has made no phase
pub no_phase : (operations : List ℕ) → IsProgressAfter operations 0 no_progress
no_phase operations = record { in_order = refl; marks = refl; published = refl }

module _ {P : Type 0} where
  -- a caller that leaves the bench unused is fresh
  pub fresh_from_bench : (b : Bench P) (i : ℕ) (c : Caller P) → IsUnused b i
      → on_bench b i ≡ Some (local_with c) → stance_on b i ≡ Some (stance_of c) → IsFresh c
  fresh_from_bench b i c unused here stands =
      let same : unused.local ≡ local_with c =
      same_Some unused.local (local_with c) (sym unused.here ∙ here) in
      record {
        stance = same_Some (stance_of c) _ (sym stands ∙ unused.stance);
        idle = subst (λ (l : Local). IsIdle l) same unused.idle;
        none = ap progress_of (sym same) ∙ unused.none;
      }

  -- a fresh caller has come as far as a client without a phase
  pub fresh_come : (meaning : P → ℕ → ℕ → Meaning) (r : Rows P) (says : _) (operations : List ℕ)
      (c : Caller P) (own : List Line)
      → IsCallerOf meaning r c → IsFresh c
      → own ≡ [] → HasCome meaning r says (who_of c) operations (Idle c) own
  fresh_come meaning r says operations c own caller fresh none =
      subst (λ (o : List Line). HasCome meaning r says (who_of c) operations (Idle c) o) (sym none)
      (record {
        caller = caller;
        number = refl;
        made = subst (λ (p : Progress). IsProgressAfter operations 0 p) (sym fresh.none)
            (no_phase operations);
        ended = [];
        calls = ap (λ (p : Progress). p.calls) fresh.none;
        lines = tt;
        errors = refl;
        may = record { idle = fresh.idle; stance = fresh.stance };
      })

  told_none : (c : Caller P) (own : List Line) (pairs : List (ℕ × ℕ)) → IsFresh c
      → own ≡ [] → pairs ≡ [] → HasTold (Idle c) own pairs
  told_none c own pairs fresh none silent =
      subst (λ (o : List Line). HasTold (Idle c) o pairs) (sym none)
      (subst (λ (ps : List (ℕ × ℕ)). HasTold (Idle c) [] ps) (sym silent)
      (record {
        told = subst (λ (calls : List Made). IsTold 0 calls [])
            (sym (ap (λ (p : Progress). p.calls) fresh.none))
            (record { operations = refl; replies = refl });
        last = tt;
      }))

  pub fresh_asked : (c : Caller P) (own : List Line) (made : ℕ) (told : Option (List (ℕ × ℕ)))
      → IsFresh c → own ≡ [] → made ≡ 0 → IfSome told (λ pairs. pairs ≡ [])
      → HasAskedFor made told (Idle c) own
  fresh_asked c own made told fresh none unmade silent = record {
    made_is = subst (λ (o : List Line). made ≡ asked (5 * length o + 0)) (sym none) unmade;
    told_is = if_some_as told (λ pairs. pairs ≡ []) (HasTold (Idle c) own)
        (λ pairs is. told_none c own pairs fresh none is) silent;
  }

  -- a bench that one more caller leaves
  pub one_less_held : (n k : ℕ) (b c d : Bench P) → k < n → HoldsBelow n (k + 1) b c
      → on_bench d k ≡ None
      → ((i : ℕ) → i ≢ k → (on_bench d i ≡ on_bench c i) × (stance_on d i ≡ stance_on c i))
      → HoldsBelow n k b d
  one_less_held n k b c d low_k held gone others = record {
    below = λ i low.
        let other = others i (λ same. omega (arith, low, same)) in
        let before = held.below i (omega (arith, low)) in
        (other.0 ∙ before.0, other.1 ∙ before.1);
    gone = λ i high within.
        elim (cases_lt k i) [
          | inl suffix ↦ (others i (λ same. omega (arith, suffix, same))).0
              ∙ held.gone i (omega (arith, suffix)) within
          | inr before ↦ let same : k ≡ i = omega (arith, high, before) in
              subst (λ (m : ℕ). on_bench d m ≡ None) same gone
        ];
    others = λ i high.
        let other = others i (λ same. omega (arith, high, low_k, same)) in
        let before = held.others i high in
        (other.0 ∙ before.0, other.1 ∙ before.1);
  }

-- the allotment of caller i is the number of phases for its stop and its operations
pub allotment_at : (operations : List (List ℕ)) (stops : List (Option ℕ)) (i : ℕ)
    → i < length operations
    → slice_index (allotments_of operations stops) i
    ≡ phases_for (stop_at stops i) (length (operations_at operations i))
allotment_at operations stops i low =
    get_or-map-range_with_len
    (λ i. phases_for (stop_at stops i) (length (operations_at operations i))) 0
    (length operations) i i 0 low (omega arith)

-- no caller has more operations than there may be
pub operations_within : (most : ℕ) (operations : List (List ℕ)) (i : ℕ)
    → AreAtMost most (sizes operations) → length (operations_at operations i) ≤ most
operations_within most [] i h = omega arith
operations_within most (ops ∷ operations) zero h = h.0
operations_within most (ops ∷ operations) (suc i) h = operations_within most operations i h.1

-- a run may begin on rows that were opened for a plan's callers and this many more, with their
-- bench
pub may_begin : {P : Type 0} (meaning : P → ℕ → ℕ → Meaning) (plan : Plan) (beside n cap : ℕ)
    (r : Rows P) (b : Bench P) → n ≡ length plan.operations + beside
    → AreAtMost cap (sizes plan.operations)
    → r.callers ≡ n → r.cap ≡ cap → IsBenchOf meaning r b
    → ((i : ℕ) → i < n → (on_bench b i ≡ Some fresh) × (stance_on b i ≡ Some fresh_stance))
    → MayBegin meaning plan beside r b
may_begin meaning plan beside n cap r b all few callers most of opened =
    let unused : (i : ℕ) → i < n → IsUnused b i = λ i low.
    record {
      local = fresh;
      here = (opened i low).0;
      stance = (opened i low).1;
      idle = record { announcing = refl; unstaged = refl };
      none = refl;
    } in
    record {
      starts = record {
        rows_for = record {
          callers = omega (arith, callers, all);
          cap = λ i. omega (arith, operations_within cap plan.operations i few, most);
        };
        bench_of = of;
        unused = λ i low. unused i (omega (arith, low, all));
      };
      callers = callers ∙ all;
      others = λ i high low. unused i (omega (arith, low, callers));
    }

-- no caller's stop comes after more phases than its calls have
pub stops_within : (operations : List (List ℕ)) (stops : List (Option ℕ)) (i : ℕ)
    → AreStops (sizes operations) stops
    → phases_for (stop_at stops i) (length (operations_at operations i))
    ≤ 5 * length (operations_at operations i)
stops_within [] [] i h = omega arith
stops_within [] (stop ∷ stops) i h = absurd h
stops_within (ops ∷ operations) [] i h = absurd h
stops_within (ops ∷ operations) (None ∷ stops) zero h = omega arith
stops_within (ops ∷ operations) (Some phases ∷ stops) zero h = omega (arith, h.0)
stops_within (ops ∷ operations) (stop ∷ stops) (suc i) h = stops_within operations stops i h.1

-- a pass with which no call was made agrees with a caller that has made no phase
pub fresh_counts : {P : Type 0} (c : Caller P) (operations : List ℕ) (own : List Line)
    (count : Option PassCount) → IsFresh c
    → own ≡ [] → IfSome count (IsNewCount (length operations))
    → Counts count operations (Idle c) own
fresh_counts c operations own count fresh none new =
    if_some_as count (IsNewCount (length operations)) (HasCounted operations (Idle c) own)
    (λ k h. record {
      asked = fresh_asked c own k.made k.told fresh none h.none h.silent;
      has_capacity = h.has_capacity;
    }) new

-- a pass fits a caller of these rows by what is known of the caller
pub fits_known : {P T : Type 0} (meaning : P → ℕ → ℕ → Meaning) (r : Rows P) (fits : Fits T)
    (pass : T) (c : Caller P) (who : ℕ) (steps : List Object_step) → IsCallerOf meaning r c
    → who_of c ≡ who → all_steps_of (local_with c) ≡ steps → fits r.callers r.cap pass who steps
    → FitsCaller fits pass c
fits_known meaning r fits pass c who steps caller number are h =
    subst (λ (n : ℕ). fits n c.cap pass (who_of c) (all_steps_of (local_with c)))
    (sym caller.callers)
    (subst (λ (n : ℕ). fits r.callers n pass (who_of c) (all_steps_of (local_with c)))
    (sym caller.cap)
    (subst (λ (w : ℕ). fits r.callers r.cap pass w (all_steps_of (local_with c)))
    (sym number)
    (subst (λ (own : List Object_step). fits r.callers r.cap pass who own) (sym are) h)))

-- the worker of a fresh caller
module _ {P T E : Type 0} (meaning : P → ℕ → ℕ → Meaning) (r : Rows P) (says : Says)
    (object : E → SeqSpec) (fits : Fits T) (count : T → Option PassCount) (plan : Plan)
    (judged : SeqSpec) where
  pub fresh_start : (c : Caller P) (pass : T) (sheet : Sheet E)
      (kept : ∥ IsGatheredBy (local_with c) sheet.gathered ∥₁)
      (stands : KeepsStanding (object sheet.ending) sheet) (allotment : ℕ)
      → HaveCapacityFor plan r
      → IsCallerOf meaning r c → IsFresh c
      → IsFreshPass r fits count plan.operations (who_of c) pass
      → sheet.who ≡ who_of c → sheet.operations.now ≡ operations_at plan.operations (who_of c)
      → IsCapacityFor plan.operations (who_of c) (record { lines = sheet.lines })
      → object sheet.ending ≡ judged
      → allotment ≡ slice_index (run_allotments plan) (who_of c)
      → allotment ≤ 5 * length (operations_at plan.operations (who_of c))
      → IsStart meaning r says object fits count (course_of plan (run_allotments plan) judged)
      (who_of c) (record {
        client = Some (record { stand = Idle c; pass = pass; sheet = sheet; kept = kept });
        allotment = allotment;
      })
  fresh_start c pass sheet kept stands allotment rows caller fresh free who operations empty judges
      phases within =
      let client : Client P T E =
      record { stand = Idle c; pass = pass; sheet = sheet; kept = kept } in
      let few : length sheet.operations.now ≡ length (operations_at plan.operations (who_of c)) =
      ap (λ (o : List ℕ). length o) operations in
      record {
        client = client;
        here = refl;
        of = record {
          work = record {
            course = subst (λ (w : ℕ). HasCome meaning r (says (object sheet.ending)) w
                sheet.operations.now (Idle c) sheet.lines.items) (sym who)
                (fresh_come meaning r (says (object sheet.ending)) sheet.operations.now c
                sheet.lines.items caller fresh empty.none);
            pass = record {
              fits_caller = fits_known meaning r fits pass c (who_of c) [] caller refl
                  (ap (λ (p : Progress). p.steps) fresh.none) free.fits_caller;
              counts = fresh_counts c sheet.operations.now sheet.lines.items
                  (count pass) fresh empty.none
                  (subst (λ (n : ℕ). IfSome (count pass) (IsNewCount n)) (sym few) free.counts);
            };
            has_capacity = record {
              rows = omega (arith, few, rows.cap (who_of c));
              lines = omega (arith, few, empty.has_capacity);
            };
            stands = stands;
          };
          who = who;
          operations = operations;
          judges = judges;
        };
        goes = tt;
        none = ap (λ (o : List Line). 5 * length o + 0) empty.none;
        allotment = phases;
        within = omega (arith, few, within);
      }
