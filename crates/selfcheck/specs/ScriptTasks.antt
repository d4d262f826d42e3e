-- What commands do with the script of an input.
use Rattle.std.specs.Prelude.{List, Option}
use Rattle.client_scripts.specs.Plans.{Plan}
use Rattle.run_report.specs.Starts.{replay_allotments}
use Rattle.test_objects.specs.declared.behaviour.Behaviour.{Behaviour}
use Rattle.reports.specs.Findings.{Findings}
use Rattle.named_runs.specs.declared.form.Form.{Form}
use Rattle.named_runs.specs.declared.form.Form.TheVariants.{Report, Certificate}
use Rattle.selfcheck.specs.declared.command.Command.{Command}
use Rattle.selfcheck.specs.declared.command.Command.TheVariants as commands
use Rattle.selfcheck.specs.declared.script_task.ScriptTask.{ScriptTask}
use Rattle.selfcheck.specs.declared.script_task.ScriptTask.TheVariants.{Run, Replay, Certify}
use Rattle.named_runs.specs.Shown.{Ended}
use Rattle.named_runs.specs.BehaviourRuns.{IsSeenRunReport, IsSeenOutside}

-- The command that does this task over the object of a behaviour.
abbrev pub command_for : ScriptTask → Behaviour → Command
command_for Run behaviour = commands.Run behaviour
command_for Replay behaviour = commands.Replay behaviour
command_for Certify behaviour = commands.Certify behaviour

-- A report that this task may make of a plan's callers over the object of a behaviour, of the one
-- table that an onlooker was shown between `shown` and `shown'`.
abbrev pub IsReportBy : ScriptTask → Behaviour → Plan → Option (List Ended) → Option (List Ended)
    → Findings → Type 0
IsReportBy Run behaviour plan shown shown' findings =
    IsSeenRunReport behaviour plan shown shown' findings
IsReportBy Replay behaviour plan shown shown' findings =
    IsSeenOutside behaviour plan (replay_allotments plan) shown shown' findings
IsReportBy Certify behaviour plan shown shown' findings =
    IsSeenRunReport behaviour plan shown shown' findings

-- The form in which the report that this task makes is written.
abbrev pub form_by : ScriptTask → Form
form_by Run = Report
form_by Replay = Report
form_by Certify = Certificate
