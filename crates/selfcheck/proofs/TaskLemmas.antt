-- What is written for a task with a script is an output of its command, and what is written of a
-- soak's run is an output of the soak.
use Rattle.std.proofs.Common.{◌≡◌, ℕ, ◌≤◌, List, [], length, Option, refl, subst, arith}
use Rattle.seq_objects.specs.Objects.{kind_spec}
use Rattle.client_scripts.specs.Plans.{Plan}
use Rattle.client_scripts.specs.ScriptRules.{IsScriptText}
use Rattle.text_fields.specs.declared.version.Version.TheVariants.{Second}
use Rattle.byte_streams.specs.declared.status.Status.{Status}
use Rattle.byte_streams.specs.declared.TheConstants.{INPUT_LIMIT}
use Rattle.byte_streams.specs.Writing.{EndsWriting}
use Rattle.test_objects.specs.declared.behaviour.Behaviour.{Behaviour}
use Rattle.test_objects.specs.declared.behaviour.Behaviour.TheVariants.{Lawful}
use Rattle.named_runs.specs.declared.form.Form.TheVariants.{Counts}
use Rattle.named_runs.specs.Runs.{IsRunOutput, RunEnds}
use Rattle.selfcheck.specs.declared.command.Command.TheVariants.{Monitor, Soak}
use Rattle.selfcheck.specs.declared.script_task.ScriptTask.{ScriptTask}
use Rattle.selfcheck.specs.declared.script_task.ScriptTask.TheVariants.{Run, Replay, Certify}
use Rattle.named_runs.specs.Shown.{Ended}
use Rattle.named_runs.specs.Monitored.{AreSeenMonitored, IsMonitorOutput}
use Rattle.selfcheck.specs.MonitorInput.{LeavesTwo}
use Rattle.selfcheck.specs.Watched.{IsSeenAnswer, IsSeenOutputOf}
use Rattle.named_runs.specs.BehaviourRuns.{IsSeenRunReport}
use Rattle.selfcheck.specs.ScriptInput.{soak_plan}
use Rattle.selfcheck.specs.ScriptTasks.{command_for, IsReportBy, form_by}
use Rattle.selfcheck.proofs.OutputLemmas.{EndsWriting-answer}

-- what is written of a task with an input's script is an answer of its command: one case a task
task_answer : (task : ScriptTask) (behaviour : Behaviour) (shown shown' : Option (List Ended))
    (bytes : List ℕ) (plan : Plan)
    → IsScriptText Second bytes plan → (status : Status) (text : List ℕ)
    → IsRunOutput (kind_spec plan.kind) (IsReportBy task behaviour plan shown shown') (form_by task)
    status text → IsSeenAnswer (command_for task behaviour) shown shown' bytes status text
task_answer Run behaviour shown shown' bytes plan told status text output = (plan, told, output)
task_answer Replay behaviour shown shown' bytes plan told status text output = (plan, told, output)
task_answer Certify behaviour shown shown' bytes plan told status text output = (plan, told, output)

pub EndsWriting-task : (task : ScriptTask) (behaviour : Behaviour)
    (shown shown' : Option (List Ended)) (bytes : List ℕ) (plan : Plan)
    (result : Status) (taken taken' : Option (List ℕ)) → length bytes ≤ INPUT_LIMIT
    → IsScriptText Second bytes plan → RunEnds (kind_spec plan.kind)
    (IsReportBy task behaviour plan shown shown') (form_by task) result taken taken'
    → EndsWriting (IsSeenOutputOf (command_for task behaviour) shown shown' bytes) result taken
    taken'
EndsWriting-task task behaviour shown shown' bytes plan result taken taken' short told ends =
    EndsWriting-answer (command_for task behaviour) shown shown' bytes
    (IsRunOutput (kind_spec plan.kind) (IsReportBy task behaviour plan shown shown') (form_by task))
    result taken taken' short
    (task_answer task behaviour shown shown' bytes plan told) ends

-- what is written of a run that two monitors watch is an output of its command
pub EndsWriting-monitor : (behaviour : Behaviour) (shown shown' : Option (List Ended))
    (bytes : List ℕ) (plan : Plan) (result : Status) (taken taken' : Option (List ℕ))
    → length bytes ≤ INPUT_LIMIT → IsScriptText Second bytes plan → LeavesTwo plan
    → EndsWriting (IsMonitorOutput (AreSeenMonitored behaviour plan shown shown') plan.kind) result
    taken taken' → EndsWriting (IsSeenOutputOf (Monitor behaviour) shown shown' bytes) result taken
    taken'
EndsWriting-monitor behaviour shown shown' bytes plan result taken taken' short told few ends =
    EndsWriting-answer (Monitor behaviour) shown shown' bytes
    (IsMonitorOutput (AreSeenMonitored behaviour plan shown shown') plan.kind) result taken taken'
    short
    (λ status text output. (plan, told, few, output)) ends

pub EndsWriting-soak : (number : ℕ) (shown shown' : Option (List Ended)) (plan : Plan)
    (result : Status) (taken taken' : Option (List ℕ))
    → plan ≡ soak_plan number
    → RunEnds (kind_spec plan.kind) (IsSeenRunReport Lawful plan shown shown') Counts result taken
    taken' → EndsWriting (IsSeenOutputOf (Soak number) shown shown' []) result taken taken'
EndsWriting-soak number shown shown' plan result taken taken' same ends =
    EndsWriting-answer (Soak number) shown shown' [] (IsRunOutput (kind_spec plan.kind)
    (IsSeenRunReport Lawful plan shown shown') Counts) result taken taken' (omega arith)
    (λ status text output. (
      refl,
      subst (λ (p : Plan). IsRunOutput (kind_spec p.kind)
          (IsSeenRunReport Lawful p shown shown') Counts status text) same output,
    )) ends
