-- The output of a command whose run an onlooker was shown.
use Rattle.std.specs.Prelude.{◌≡◌, ℕ, ◌≤◌, List, [], length, Option, MatchOption, String}
use Rattle.std.specs.declared.alloc.Global.{Global}
use Rattle.seq_objects.specs.Objects.{kind_spec}
use Rattle.seq_objects.specs.declared.kind.Kind.TheVariants.{Queue}
use Rattle.client_scripts.specs.Plans.{Plan}
use Rattle.client_scripts.specs.ScriptRules.{IsScriptText}
use Rattle.text_fields.specs.declared.version.Version.TheVariants.{Second}
use Rattle.run_report.specs.Starts.{replay_allotments}
use Rattle.test_objects.specs.declared.behaviour.Behaviour.TheVariants.{Lawful}
use Rattle.byte_streams.specs.declared.status.Status.{Status}
use Rattle.byte_streams.specs.declared.status.Status.TheVariants.{Refused}
use Rattle.byte_streams.specs.declared.TheConstants.{INPUT_LIMIT}
use Rattle.named_runs.specs.declared.form.Form.TheVariants.{Report, Counts, Certificate}
use Rattle.named_runs.specs.Shown.{Ended}
use Rattle.named_runs.specs.BehaviourRuns.{IsSeenRunReport, IsSeenOutside}
use Rattle.named_runs.specs.Monitored.{AreSeenMonitored, IsMonitorOutput}
use Rattle.named_runs.specs.Runs.{IsRunOutput}
use Rattle.selfcheck.specs.declared.command.Command.{Command}
use Rattle.selfcheck.specs.declared.command.Command.TheVariants.{Run, Replay, Certify, Monitor, Soak}
use Rattle.selfcheck.specs.Command.{command_of}
use Rattle.selfcheck.specs.MonitorInput.{LeavesTwo}
use Rattle.selfcheck.specs.ScriptInput.{IsShownOf, soak_plan}
use Rattle.selfcheck.specs.Output.{IsAnswerOf, IsRefusal, IsUsage}

-- What a command may answer to an input that it takes, a status and a text, where an onlooker was
-- shown `shown` before and `shown'` afterwards. A command that makes a run has shown just the table
-- of this run, and the answer is of the locals of this table. Any other command has shown nothing.
abbrev pub IsSeenAnswer : Command → Option (List Ended) → Option (List Ended) → List ℕ → Status
    → List ℕ → Type 0
IsSeenAnswer (Run behaviour) shown shown' bytes status text =
    IsShownOf (λ plan. IsSeenRunReport behaviour plan shown shown') Report bytes status text
IsSeenAnswer (Replay behaviour) shown shown' bytes status text =
    IsShownOf (λ plan. IsSeenOutside behaviour plan (replay_allotments plan) shown shown') Report
    bytes status text
IsSeenAnswer (Certify behaviour) shown shown' bytes status text =
    IsShownOf (λ plan. IsSeenRunReport behaviour plan shown shown') Certificate bytes status text
IsSeenAnswer (Monitor behaviour) shown shown' bytes status text =
    (plan : Plan) × IsScriptText Second bytes plan × LeavesTwo plan
    × IsMonitorOutput (AreSeenMonitored behaviour plan shown shown') plan.kind status text
IsSeenAnswer (Soak number) shown shown' bytes status text = (bytes ≡ [])
    × IsRunOutput (kind_spec Queue) (IsSeenRunReport Lawful (soak_plan number) shown shown') Counts
    status text
IsSeenAnswer command shown shown' bytes status text =
    (shown' ≡ shown) × IsAnswerOf command bytes status text

-- An output of a command for the bytes that it works on, where an onlooker was shown `shown` before
-- and `shown'` afterwards. An input that is refused makes no run, so nothing was shown.
abbrev pub IsSeenOutputOf : Command → Option (List Ended) → Option (List Ended) → List ℕ → Status
    → List ℕ → Type 0
IsSeenOutputOf command shown shown' bytes Refused text =
    (shown' ≡ shown) × IsRefusal command bytes text
IsSeenOutputOf command shown shown' bytes status text = (length bytes ≤ INPUT_LIMIT)
    × IsSeenAnswer command shown shown' bytes status text

-- The output of the program, for its words and the bytes read, where an onlooker was shown `shown`
-- before and `shown'` afterwards.
abbrev pub IsSeenOutput : List (String Global) → Option (List Ended) → Option (List Ended) → List ℕ
    → Status → List ℕ → Type 0
IsSeenOutput words shown shown' bytes status text = MatchOption (command_of words)
    ((shown' ≡ shown) × IsUsage status text)
    (λ command. IsSeenOutputOf command shown shown' bytes status text)
