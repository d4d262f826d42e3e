-- What is written of a run that opens its own table of rows and that two monitors watch.
use Rattle.std.specs.Prelude.{ℕ, ◌+◌, List, Option, length, slice_index}
use Rattle.seq_objects.specs.declared.kind.Kind.{Kind}
use Rattle.world_core.specs.Local.{Local}
use Rattle.world_core.specs.Calls.{Made, AreTogether, calls_in, local_at}
use Rattle.client_scripts.specs.Plans.{Plan}
use Rattle.test_objects.specs.declared.behaviour.Behaviour.{Behaviour}
use Rattle.byte_streams.specs.declared.status.Status.{Status}
use Rattle.run_report.specs.Starts.{run_allotments}
use Rattle.monitor.specs.Monitoring.{HaveMadeAll}
use Rattle.monitor.specs.MonitorTexts.{IsMonitorText}
use Rattle.run_report.specs.Reporting.{outside_shape}
use Rattle.named_runs.specs.Shown.{Ended, Sees}
use Rattle.named_runs.specs.NamedObjects.{TellOwnCalls, IsOfBehaviour}

-- How many phases caller `i` of a plan makes in a run; 0 for the monitors, which come after the
-- plan's callers.
abbrev pub phases_in : Plan → ℕ → ℕ
phases_in plan i = slice_index (run_allotments plan) i

-- The calls of caller `i` that its local among `locals` records.
abbrev pub calls_at : List Local → ℕ → List Made
calls_at locals i = calls_in (local_at locals i)

-- These locals are those of one reachable world of a plan's callers and of two monitors, whose
-- object is outside the world: each of the plan's callers has made exactly the phases up to its
-- stop, or all of its calls, and the monitors have made no call.
pub record AreMonitored (plan : Plan) (locals : List Local) : Type 0 where
  pub together : AreTogether (outside_shape (length plan.operations + 2)) locals
  pub made : HaveMadeAll plan locals

-- The table of a monitored run of a plan, whose callers have these locals.
abbrev pub monitored_table : Plan → List Local → Ended
monitored_table plan locals =
    record { shape = outside_shape (length plan.operations + 2); locals = locals }

-- These locals are those of a monitored run's callers, on the one table that an onlooker was shown
-- between `shown` and `shown'`. The told list of each pass, where it has one, is of the calls of
-- the pass's caller; the passes are in the order of the plan's callers.
pub record AreToldMonitored {T : Type 0} (told : T → Option (List (ℕ × ℕ))) (passes : List T)
    (plan : Plan) (shown shown' : Option (List Ended)) (locals : List Local) : Type 0 where
  pub monitored : AreMonitored plan locals
  pub told_in : TellOwnCalls told (phases_in plan) (calls_at locals) passes
  pub seen : Sees shown (monitored_table plan locals) shown'

-- These locals are those of a monitored run's callers, and the object of a behaviour answered the
-- calls of the plan's callers. The monitors have made no call.
pub record AreNamedMonitored (behaviour : Behaviour) (plan : Plan)
    (locals : List Local) : Type 0 where
  pub monitored : AreMonitored plan locals
  pub object : IsOfBehaviour behaviour plan.kind (length plan.operations) (phases_in plan)
      (calls_at locals)

-- These locals are those of a monitored run's callers over the object of a behaviour, on the one
-- table that an onlooker was shown between `shown` and `shown'`.
pub record AreSeenMonitored (behaviour : Behaviour) (plan : Plan)
    (shown shown' : Option (List Ended)) (locals : List Local) : Type 0 where
  pub named : AreNamedMonitored behaviour plan locals
  pub seen : Sees shown (monitored_table plan locals) shown'

-- The output of a monitored run that ends with some locals of which `Are` is true: a status and a
-- text that are right for the records that the callers with these locals have published.
abbrev pub IsMonitorOutput : (List Local → Type 0) → Kind → Status → List ℕ → Type 0
IsMonitorOutput Are kind status text = (locals : List Local) × Are locals
    × IsMonitorText kind locals status text
