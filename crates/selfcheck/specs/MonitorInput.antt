-- Which scripts leave two callers for the monitors, and what is written of a run of such a script.
use Rattle.std.specs.Prelude.{◌≡◌, ◌⊎◌, ℕ, ◌+◌, ◌<◌, ◌≤◌, List, length, codes, Ok}
use Rattle.book_base.specs.declared.TheConstants.{MAX_CALLERS}
use Rattle.book_base.specs.declared.fault.TextFault.{TextFault}
use Rattle.book_base.specs.declared.fault.What.TheVariants.{Callers}
use Rattle.seq_objects.specs.declared.kind.Kind.{Kind}
use Rattle.text_fields.specs.declared.version.Version.TheVariants.{Second}
use Rattle.text_fields.specs.Head.{AreCallers, title_words, object_words, callers_words}
use Rattle.text_fields.specs.Lines.{Unread, line_at, words_of}
use Rattle.book_text.specs.BookRules.{whole_text}
use Rattle.client_scripts.specs.Plans.{Plan}
use Rattle.client_scripts.specs.ScriptRules.{IsScriptText, IsFirstScriptFault}
use Rattle.test_objects.specs.declared.behaviour.Behaviour.{Behaviour}
use Rattle.byte_streams.specs.declared.status.Status.{Status}
use Rattle.named_runs.specs.Monitored.{AreNamedMonitored, IsMonitorOutput}

-- The plan leaves two callers for the monitors: it has at least two callers fewer than a table can
-- have.
abbrev pub LeavesTwo : Plan → Type 0
LeavesTwo plan = length plan.operations + 2 ≤ MAX_CALLERS

-- the bytes are the text of a script that leaves two callers for the monitors
unfoldable pub IsMonitorInput : List ℕ → Type 0
IsMonitorInput bytes = (plan : Plan) × IsScriptText Second bytes plan × LeavesTwo plan

-- The first three lines of the bytes are those of a script of this many callers.
pub record IsOpening (bytes : List ℕ) (callers : ℕ) : Type 0 where
  pub title_line : List ℕ
  pub object_line : List ℕ
  pub callers_line : List ℕ
  pub after_title : Unread
  pub after_object : Unread
  pub after_callers : Unread
  pub first : line_at (whole_text bytes) ≡ Ok (title_line, after_title)
  pub second : line_at after_title ≡ Ok (object_line, after_object)
  pub third : line_at after_object ≡ Ok (callers_line, after_callers)
  pub titled : words_of title_line ≡ title_words Second (codes "script")
  pub kind : Kind
  pub named : words_of object_line ≡ object_words kind
  pub may : AreCallers Second callers
  pub told : words_of callers_line ≡ callers_words callers

-- The first three lines of the bytes are those of a script of too many callers to leave two for the
-- monitors.
abbrev pub IsCrowded : List ℕ → Type 0
IsCrowded bytes = (callers : ℕ) × IsOpening bytes callers × (MAX_CALLERS < callers + 2)

-- The first fault of bytes that are no text of a script that leaves two callers for the monitors.
-- Where their first three lines are those of a script of too many callers, it is `Callers` in line
-- 3, whatever follows; otherwise it is the first fault of a script's text.
unfoldable pub IsFirstMonitorFault : List ℕ → TextFault → Type 0
IsFirstMonitorFault bytes fault =
    (IsCrowded bytes × (fault ≡ record { line = 3; what = Callers }))
    ⊎ ((¬ IsCrowded bytes) × IsFirstScriptFault Second bytes fault)

-- What `monitor` answers to the text of a script: a status and a text that are right for the
-- records that the script's callers published in a run, where the object of the behaviour answered
-- their calls.
abbrev pub IsMonitoredOf : Behaviour → List ℕ → Status → List ℕ → Type 0
IsMonitoredOf behaviour bytes status text =
    (plan : Plan) × IsScriptText Second bytes plan × LeavesTwo plan
    × IsMonitorOutput (AreNamedMonitored behaviour plan) plan.kind status text
