-- What holds of the report of a run that opens its own table of rows.
use Rattle.std.specs.Prelude.{◌≡◌, ℕ, false, List, Option, IsSome, length}
use Rattle.std.specs.List.{list_any}
use Rattle.book_base.specs.SeqSpec.{SeqSpec}
use Rattle.seq_objects.specs.Objects.{kind_spec}
use Rattle.world_core.specs.Shape.{Shape}
use Rattle.world_core.specs.Local.{Object_step}
use Rattle.world_core.specs.CallSteps.{all_steps_of}
use Rattle.world_core.specs.Calls.{local_at}
use Rattle.report_lines.specs.Lawful.{IsLawful}
use Rattle.report_lines.specs.Lines.{any_error}
use Rattle.client_scripts.specs.Plans.{Plan}
use Rattle.run_report.specs.Places.{AreInOrder}
use Rattle.run_report.specs.Starts.{run_allotments, replay_allotments}
use Rattle.reports.specs.Findings.{Findings}
use Rattle.run_report.specs.Reporting.{outside_shape, IsToldIn}
use Rattle.test_objects.specs.declared.behaviour.Behaviour.{Behaviour}
use Rattle.core_runs.specs.LoggedReports.{phases_in, calls_of_lines}
use Rattle.named_runs.specs.Shown.{Ended, IsShownReport}
use Rattle.named_runs.specs.NamedObjects.{IsOfBehaviour}
use Rattle.named_runs.specs.Worlds.{inside_of, world_of}

-- The report of a plan's callers with these allotments in a world of this shape. It has the plan's
-- kind, and is lawful for the sequential object of that kind.
pub record IsLawfulReport (s : Shape) (plan : Plan) (allotments : List ℕ)
    (findings : Findings) : Type 0 where
  pub kind : findings.kind ≡ plan.kind
  pub lawful : IsLawful (kind_spec plan.kind) s plan.operations allotments findings.lines

-- A lawful report of a run over an object outside the world, of the one table that an onlooker was
-- shown between `shown` and `shown'`. With these passes, in order, the object was asked for just
-- the calls that the callers' lines determine; and where a pass has a told list, it has an
-- operation and a reply for each of these calls.
pub record IsToldReport {T : Type 0} (made : T → ℕ) (told : T → Option (List (ℕ × ℕ)))
    (passes : List T) (plan : Plan) (allotments : List ℕ) (shown shown' : Option (List Ended))
    (findings : Findings) : Type 0 where
  pub report : IsShownReport (kind_spec plan.kind) (outside_shape (length plan.operations)) plan
      allotments shown shown' findings
  pub told_in : AreInOrder (IsToldIn made told allotments findings) passes

-- A lawful report of a run over an object inside the world, in a world of this shape, judged by a
-- sequential object, of the one table that an onlooker was shown between `shown` and `shown'`. No
-- line of it is an error, and pass i fits caller i with the object steps that its local on the
-- table has.
pub record IsInsideReport {T : Type 0} (object : SeqSpec) (s : Shape)
    (fits : T → ℕ → ℕ → ℕ → List Object_step → Type 0) (passes : List T) (plan : Plan)
    (shown shown' : Option (List Ended)) (findings : Findings) : Type 0 where
  pub of : IsShownReport object s plan (run_allotments plan) shown shown' findings
  pub no_error : list_any any_error findings.lines ≡ false
  pub fit : AreInOrder
      (λ i pass. fits pass i s.callers s.cap (all_steps_of (local_at of.locals i))) passes

-- A lawful report of callers in a world of this shape, whose calls the object of a behaviour
-- answered.
pub record IsNamedReport (s : Shape) (behaviour : Behaviour) (plan : Plan) (allotments : List ℕ)
    (findings : Findings) : Type 0 where
  pub report : IsLawfulReport s plan allotments findings
  pub object : IsOfBehaviour behaviour plan.kind (length findings.lines)
      (phases_in allotments findings) (calls_of_lines findings)

-- The report of a run over the object of a behaviour, in which each of the plan's callers goes by
-- itself. It is lawful in the world that `world_of` gives, its calls were answered by that object,
-- and it has no error line where the object is inside the world.
pub record IsNamedRunReport (behaviour : Behaviour) (plan : Plan)
    (findings : Findings) : Type 0 where
  pub named : IsNamedReport (world_of behaviour plan.kind (length plan.operations)) behaviour plan
      (run_allotments plan) findings
  pub no_error : IsSome (inside_of behaviour plan.kind) → list_any any_error findings.lines ≡ false

-- The report of a replay over the object of a behaviour, in which the plan's callers take the
-- plan's turns. The object is outside the world.
abbrev pub IsNamedReplayReport : Behaviour → Plan → Findings → Type 0
IsNamedReplayReport behaviour plan findings = IsNamedReport
    (outside_shape (length plan.operations)) behaviour plan (replay_allotments plan) findings

-- A report of which `Is` holds. It is a lawful report of a plan's callers, by the object of the
-- plan's kind, of the one table that an onlooker was shown between `shown` and `shown'`, in a world
-- of this shape.
pub record IsSeen (Is : Findings → Type 0) (s : Shape) (plan : Plan) (allotments : List ℕ)
    (shown shown' : Option (List Ended)) (findings : Findings) : Type 0 where
  pub named : Is findings
  pub of : IsShownReport (kind_spec plan.kind) s plan allotments shown shown' findings

-- The report of a run over the object of a behaviour, of the one table that an onlooker was shown
-- between `shown` and `shown'`.
abbrev pub IsSeenRunReport : Behaviour → Plan → Option (List Ended) → Option (List Ended) → Findings
    → Type 0
IsSeenRunReport behaviour plan shown shown' findings = IsSeen (IsNamedRunReport behaviour plan)
    (world_of behaviour plan.kind (length plan.operations)) plan (run_allotments plan) shown shown'
    findings

-- The report of callers with these allotments over the object of a behaviour, outside the world, of
-- the one table that an onlooker was shown between `shown` and `shown'`.
abbrev pub IsSeenOutside : Behaviour → Plan → List ℕ → Option (List Ended) → Option (List Ended)
    → Findings → Type 0
IsSeenOutside behaviour plan allotments shown shown' findings =
    IsSeen (IsNamedReport (outside_shape (length plan.operations)) behaviour plan allotments)
    (outside_shape (length plan.operations)) plan allotments shown shown' findings
