-- Whether the bytes of an input are the text of a script, and what is written of a run of this
-- script.
use Rattle.std.specs.Prelude.{ℕ, List, IsSome}
use Rattle.seq_objects.specs.Objects.{kind_spec}
use Rattle.client_scripts.specs.Generator.{generated}
use Rattle.client_scripts.specs.Plans.{Plan}
use Rattle.client_scripts.specs.ScriptRules.{IsScriptText}
use Rattle.seq_objects.specs.declared.kind.Kind.TheVariants.{Queue}
use Rattle.text_fields.specs.declared.version.Version.TheVariants.{Second}
use Rattle.reports.specs.Findings.{Findings}
use Rattle.test_objects.specs.declared.behaviour.Behaviour.{Behaviour}
use Rattle.test_objects.specs.declared.behaviour.Behaviour.TheVariants.{Lawful}
use Rattle.named_runs.specs.declared.form.Form.{Form}
use Rattle.named_runs.specs.declared.form.Form.TheVariants.{Report, Counts, Certificate}
use Rattle.byte_streams.specs.declared.status.Status.{Status}
use Rattle.named_runs.specs.Worlds.{inside_of}
use Rattle.named_runs.specs.BehaviourRuns.{IsNamedRunReport, IsNamedReplayReport}
use Rattle.named_runs.specs.Runs.{IsRunOutput}

-- the bytes are the text of a script
unfoldable pub IsScriptInput : List ℕ → Type 0
IsScriptInput bytes = (plan : Plan) × IsScriptText Second bytes plan

-- A status and a text, which the form shows of a report. The bytes are the text of a script, for
-- which `IsReportFor` allows this report.
abbrev pub IsShownOf : (Plan → Findings → Type 0) → Form → List ℕ → Status → List ℕ → Type 0
IsShownOf IsReportFor form bytes status text =
    (plan : Plan) × IsScriptText Second bytes plan
    × IsRunOutput (kind_spec plan.kind) (IsReportFor plan) form status text

-- Where the bytes are the text of a script, the object of the behaviour is inside the world in a
-- run of that script.
abbrev pub IsRunInside : Behaviour → List ℕ → Type 0
IsRunInside behaviour bytes = (plan : Plan) → IsScriptText Second bytes plan
    → IsSome (inside_of behaviour plan.kind)

-- What `run` answers to the text of a script: a status, and the text of a lawful report, with the
-- text of its witness where the report has an error. In the report each caller goes by itself, and
-- the object of the behaviour answered the calls.
abbrev pub IsRunOf : Behaviour → List ℕ → Status → List ℕ → Type 0
IsRunOf behaviour bytes status text =
    IsShownOf (IsNamedRunReport behaviour) Report bytes status text

-- What `replay` answers to the text of a script: a status, and the text of a lawful report, with
-- the text of its witness where the report has an error. In the report the callers take the
-- script's turns, and the object of the behaviour answered the calls.
abbrev pub IsReplayOf : Behaviour → List ℕ → Status → List ℕ → Type 0
IsReplayOf behaviour bytes status text =
    IsShownOf (IsNamedReplayReport behaviour) Report bytes status text

-- What `certify` answers to the text of a script: a status, and a certificate of what a lawful
-- report delivered. In the report each caller goes by itself, and the object of the behaviour
-- answered the calls.
abbrev pub IsCertifiedOf : Behaviour → List ℕ → Status → List ℕ → Type 0
IsCertifiedOf behaviour bytes status text =
    IsShownOf (IsNamedRunReport behaviour) Certificate bytes status text

-- The script of a soak: 4 callers with 32 calls of a queue each, made from its number.
abbrev pub soak_plan : ℕ → Plan
soak_plan number = generated number 4 32 Queue

-- What `soak` says: a status and the three counts of a lawful report of the script made from its
-- number.
abbrev pub IsSoakOf : ℕ → Status → List ℕ → Type 0
IsSoakOf number status text = IsRunOutput (kind_spec Queue)
    (IsNamedRunReport Lawful (soak_plan number)) Counts status text
