-- Runs over objects inside the world, and the behaviours that are run over them.
use Rattle.std.proofs.Common.{◌≡◌, ◌∙◌, sym, ap, subst, ℕ, ◌<◌, List, Option, None, is_some, true≢false, false, length, arith}
use Rattle.std.proofs.lemmas.Option.{slice_get_within, get_or_from_slice_get}
use Rattle.book_base.specs.SeqSpec.{SeqSpec}
use Rattle.seq_objects.specs.declared.kind.Kind.{Kind}
use Rattle.seq_objects.specs.Objects.{kind_spec}
use Rattle.world_core.specs.Shape.{Shape, Meaning}
use Rattle.world_core.specs.Local.{Local, Object_step}
use Rattle.world_core.specs.CallSteps.{all_steps_of}
use Rattle.world_core.specs.Calls.{local_at}
use Rattle.client_scripts.specs.Plans.{Plan}
use Rattle.reports.specs.Findings.{Findings}
use Rattle.row_table.specs.declared.rows.Rows.{Rows}
use Rattle.row_table.specs.declared.bench.Bench.{Bench}
use Rattle.row_table.specs.Callers.{shape_of, locals_on}
use Rattle.core_objects.specs.CoreObjects.{shape_with, AreOpenedWith, ArePassesFor}
use Rattle.run_report.specs.Returns.{IsBackOn}
use Rattle.run_report.specs.Starts.{run_allotments}
use Rattle.run_report.specs.Reporting.{IsReportOf}
use Rattle.run_report.proofs.Workers.{the_local}
use Rattle.test_objects.specs.declared.behaviour.Behaviour.{Behaviour}
use Rattle.byte_streams.specs.declared.status.Status.{Status}
use Rattle.named_runs.specs.declared.form.Form.{Form}
use Rattle.named_runs.specs.Runs.{RunEnds}
use Rattle.named_runs.specs.Running.{IsCoreReport}
use Rattle.core_runs.specs.Inside.{fits_inside}
use Rattle.core_runs.specs.LoggedReports.{phases_in, calls_of_lines}
use Rattle.named_runs.specs.NamedObjects.{IsOfBehaviour}
use Rattle.named_runs.specs.Worlds.{inside_of, world_of}
use Rattle.named_runs.specs.Shown.{Ended, Sees, IsShownReport}
use Rattle.named_runs.specs.BehaviourRuns.{IsInsideReport, IsSeenRunReport, IsSeenOutside}
use Rattle.named_runs.proofs.FreshRuns.{RunEnds-weaker}

module _ {P : Type 0} (r : Rows P) (n cap : ℕ) (callers : r.callers ≡ n) (most : r.cap ≡ cap) where
  -- rows that were opened with a program were opened with the object's, where the two are equal
  pub opened_with : (meaning : P → ℕ → ℕ → Meaning) (p q : P) → r.program ≡ p
      → r.objects ≡ (meaning p n cap).objects → p ≡ q → AreOpenedWith meaning q r
  opened_with meaning p q program objects same = record {
    program_is = program ∙ same;
    objects = objects ∙ ap (λ (x : P). (meaning x n cap).objects) same
        ∙ ap (λ (k : ℕ). (meaning q k cap).objects) (sym callers)
        ∙ ap (λ (k : ℕ). (meaning q r.callers k).objects) (sym most);
  }

  -- passes for as many callers and this cap are passes for these rows
  pub passes_for_rows : {T : Type 0} (fits : T → ℕ → ℕ → ℕ → List Object_step → Type 0)
      (passes : List T) → ArePassesFor fits n cap passes → ArePassesFor fits r.callers r.cap passes
  passes_for_rows fits passes h =
      subst (λ (k : ℕ). ArePassesFor fits k r.cap passes) (sym callers)
      (subst (λ (k : ℕ). ArePassesFor fits n k passes) (sym most) h)

  -- a report of the locals on their bench is one of the world of the program that they were opened
  -- with, and the passes fit those locals
  pub inside_report : {T : Type 0} (meaning : P → ℕ → ℕ → Meaning) (program : P)
      → r.program ≡ program → (object : SeqSpec)
      (fits : T → ℕ → ℕ → ℕ → List Object_step → Type 0) (b : Bench P) (passes : List T)
      (plan : Plan) (shown shown' : Option (List Ended))
      → Sees shown (record { shape = shape_of meaning r; locals = locals_on b }) shown'
      → length passes ≡ length plan.operations
      → ((i : ℕ) → i < length plan.operations → IsBackOn meaning r (fits_inside fits)
      (λ pass. None) plan.operations (run_allotments plan) b passes i) → (findings : Findings)
      → IsCoreReport object meaning r b plan (run_allotments plan) findings
      → IsInsideReport object (shape_with (meaning program) n cap) fits passes plan shown shown'
      findings
  inside_report meaning program own object fits b passes plan shown shown' seen count back findings
      is =
      let same : shape_of meaning r ≡ shape_with (meaning program) n cap = λ i.
      record { callers = callers i; cap = most i; program = meaning (own i) (callers i) (most i) }
      in
      subst (λ (s : Shape). IsInsideReport object s fits passes plan shown shown' findings) same
      (record {
        of = record { locals = locals_on b; report = is.report; seen = seen };
        no_error = is.no_error;
        fit = λ i pass there.
            let on = back i (omega (arith, count, slice_get_within passes i pass there)) in
            let mine = sym (get_or_from_slice_get passes i on.pass pass on.pass_here)
            ∙ get_or_from_slice_get passes i pass pass there in
            subst (λ (p : _). fits p i r.callers r.cap (all_steps_of (local_at (locals_on b) i)))
            mine
            (subst (λ (l : Local). fits on.pass i r.callers r.cap (all_steps_of l))
            (sym (the_local b.seat.me.0 i on.local on.here)) on.back.fits_caller);
      })

-- the report of a run over an object inside the world, by other names for the behaviour and the
-- kind
pub named_inside : {T : Type 0} (behaviour known : Behaviour) → behaviour ≡ known → (plan : Plan)
    (kind : Kind) → kind ≡ plan.kind → (fits : T → ℕ → ℕ → ℕ → List Object_step → Type 0)
    (passes : List T) (shown shown' : Option (List Ended))
    → ((locals : List Local) (findings : Findings) → IsReportOf (kind_spec kind)
    (world_of known kind (length plan.operations)) locals plan (run_allotments plan) findings
    → IsOfBehaviour known kind (length findings.lines) (phases_in (run_allotments plan) findings)
    (calls_of_lines findings)) → (findings : Findings) → IsInsideReport (kind_spec kind)
    (world_of known kind (length plan.operations)) fits passes plan shown shown' findings
    → IsSeenRunReport behaviour plan shown shown' findings
named_inside behaviour known is plan kind same fits passes shown shown' answered findings inside =
    let IsSeenOf : Behaviour → Kind → Type 0 = λ b k. IsShownReport (kind_spec k)
    (world_of b k (length plan.operations)) plan (run_allotments plan) shown shown' findings in
    record {
      named = record {
        named = record {
          report = record {
            kind = inside.of.report.kind;
            lawful = rw (is, ← same) inside.of.report.lawful;
          };
          object = rw (is, ← same) (answered inside.of.locals findings inside.of.report);
        };
        no_error = λ some. inside.no_error;
      };
      of = subst (λ (k : Kind). IsSeenOf behaviour k) same
          (subst (λ (b : Behaviour). IsSeenOf b kind) (sym is) inside.of);
    }

-- what is written of a run over an object inside the world is written of a run of its behaviour
pub inside_ends : {T : Type 0} (behaviour known : Behaviour) → behaviour ≡ known → (plan : Plan)
    (kind : Kind) → kind ≡ plan.kind → (fits : T → ℕ → ℕ → ℕ → List Object_step → Type 0)
    (passes : List T) (shown shown' : Option (List Ended)) (form : Form) (result : Status)
    (taken taken' : Option (List ℕ))
    → ((locals : List Local) (findings : Findings) → IsReportOf (kind_spec kind)
    (world_of known kind (length plan.operations)) locals plan (run_allotments plan) findings
    → IsOfBehaviour known kind (length findings.lines) (phases_in (run_allotments plan) findings)
    (calls_of_lines findings)) → RunEnds (kind_spec kind) (IsInsideReport (kind_spec kind)
    (world_of known kind (length plan.operations)) fits passes plan shown shown') form result taken
    taken' → RunEnds (kind_spec plan.kind) (IsSeenRunReport behaviour plan shown shown') form result
    taken taken'
inside_ends behaviour known is plan kind same fits passes shown shown' form result taken taken'
    answered ends =
    subst (λ (k : Kind).
    RunEnds (kind_spec k) (IsSeenRunReport behaviour plan shown shown') form result taken taken')
    same
    (RunEnds-weaker _ _ _ _ _ _ _
    (named_inside behaviour known is plan kind same fits passes shown shown' answered) ends)

-- a report of a behaviour whose object is outside the world is one of a run of this behaviour
pub named_outside : (behaviour : Behaviour) (plan : Plan) (shown shown' : Option (List Ended))
    → inside_of behaviour plan.kind ≡ None → (findings : Findings)
    → IsSeenOutside behaviour plan (run_allotments plan) shown shown' findings
    → IsSeenRunReport behaviour plan shown shown' findings
named_outside behaviour plan shown shown' none findings is = record {
  named = record {
    named = rw none is.named;
    no_error = λ some. absurd (true≢false (sym some ∙ ap is_some none));
  };
  of = rw none is.of;
}
