-- Runs that open the table of rows, and the object of a name, themselves.
use Rattle.std.proofs.Common.{◌≡◌, ℕ, List, Option, length, sym, subst}
use Rattle.book_base.specs.SeqSpec.{SeqSpec}
use Rattle.world_core.specs.Shape.{Shape, Meaning}
use Rattle.world_core.specs.Calls.{Made}
use Rattle.client_scripts.specs.Plans.{Plan}
use Rattle.seq_objects.specs.declared.kind.Kind.{Kind}
use Rattle.seq_objects.specs.Objects.{kind_spec}
use Rattle.row_table.specs.Callers.{shape_of, locals_on}
use Rattle.row_table.specs.declared.rows.Rows.{Rows}
use Rattle.row_table.specs.declared.bench.Bench.{Bench}
use Rattle.reports.specs.Findings.{Findings}
use Rattle.test_objects.specs.declared.behaviour.Behaviour.{Behaviour}
use Rattle.named_runs.specs.declared.form.Form.{Form}
use Rattle.byte_streams.specs.declared.status.Status.{Status}
use Rattle.run_report.specs.Reporting.{outside_shape}
use Rattle.named_runs.specs.Running.{IsToldBenchReport}
use Rattle.named_runs.specs.Runs.{RunEnds, IsRunOutput}
use Rattle.core_runs.specs.LoggedReports.{phases_in, calls_of_lines}
use Rattle.named_runs.specs.NamedObjects.{TellOwnCalls, IsOfBehaviour}
use Rattle.named_runs.specs.Shown.{Ended, Sees, IsShownReport}
use Rattle.named_runs.specs.BehaviourRuns.{IsToldReport, IsSeenOutside}
use Rattle.byte_streams.proofs.WritingLemmas.{EndsWriting-weaker}

-- what is written of a run with one of some reports is written of a run with one of any reports
-- that include these
pub RunEnds-weaker : (object : SeqSpec) (A B : Findings → Type 0) (form : Form) (result : Status)
    (taken taken' : Option (List ℕ)) → ((report : Findings) → A report → B report)
    → RunEnds object A form result taken taken' → RunEnds object B form result taken taken'
RunEnds-weaker object A B form result taken taken' weaker ends =
    EndsWriting-weaker (IsRunOutput object A form) (IsRunOutput object B form) result taken taken'
    (λ status text output. (output.0, weaker output.0 output.1, output.2, output.3)) ends

-- the report of a run over rows that were opened for it is lawful, and of the table that the
-- onlooker was shown
pub fresh_report : {P T : Type 0} (meaning : P → ℕ → ℕ → Meaning) (rows : Rows P) (bench : Bench P)
    (made : T → ℕ) (told : T → Option (List (ℕ × ℕ))) (passes : List T) (plan : Plan)
    (allotments : List ℕ) (shown shown' : Option (List Ended))
    → shape_of meaning rows ≡ outside_shape (length plan.operations)
    → Sees shown (record { shape = shape_of meaning rows; locals = locals_on bench }) shown'
    → (findings : Findings) → IsToldBenchReport (kind_spec plan.kind) meaning rows bench made told
    passes plan allotments findings
    → IsToldReport made told passes plan allotments shown shown' findings
fresh_report meaning rows bench made told passes plan allotments shown shown' shape seen findings
    is = record {
      report = subst (λ (s : Shape).
          IsShownReport (kind_spec plan.kind) s plan allotments shown shown' findings) shape
          (record { locals = locals_on bench; report = is.report; seen = seen });
      told_in = is.told_in;
    }

-- an object of a behaviour answered calls also under equal names for the behaviour, the kind and
-- the number of callers
pub answered_as : (behaviour named : Behaviour) (kind other : Kind) (n m : ℕ) (phases : ℕ → ℕ)
    (calls : ℕ → List Made) → behaviour ≡ named → other ≡ kind → m ≡ n
    → IsOfBehaviour named other m phases calls → IsOfBehaviour behaviour kind n phases calls
answered_as behaviour named kind other n m phases calls is same all h = rw (is, ← same, ← all) h

-- a report is one of a behaviour, where the behaviour's object answered whatever calls the passes
-- tell
pub named_report : {T : Type 0} (made : T → ℕ) (told : T → Option (List (ℕ × ℕ))) (passes : List T)
    (behaviour : Behaviour) (plan : Plan) (allotments : List ℕ) (shown shown' : Option (List Ended))
    → ((phases : ℕ → ℕ) (calls : ℕ → List Made) → TellOwnCalls told phases calls passes
    → IsOfBehaviour behaviour plan.kind (length plan.operations) phases calls)
    → (findings : Findings) → IsToldReport made told passes plan allotments shown shown' findings
    → IsSeenOutside behaviour plan allotments shown shown' findings
named_report made told passes behaviour plan allotments shown shown' answered findings is = record {
  named = record {
    report = record { kind = is.report.report.kind; lawful = is.report.report.lawful };
    object =
        subst (λ (n : ℕ). IsOfBehaviour behaviour plan.kind n (phases_in allotments findings)
        (calls_of_lines findings)) (sym is.report.report.lawful.callers)
        (answered (phases_in allotments findings) (calls_of_lines findings)
        (λ i pass there. (is.told_in i pass there).told_is));
  };
  of = is.report;
}
