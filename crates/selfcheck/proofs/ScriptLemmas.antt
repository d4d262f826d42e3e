-- Lemmas on the texts of scripts and what is written of their runs.
use Rattle.std.proofs.Common.{◌≡◌, ◌∙◌, ap, ◌⊎◌, ℕ, Bool, true, false, List, inl, inr, if◌then◌else◌}
use Rattle.std.specs.List.{list_any}
use Rattle.book_base.specs.declared.fault.TextFault.{TextFault}
use Rattle.book_base.specs.SeqSpec.{SeqSpec}
use Rattle.report_lines.specs.Lines.{any_error}
use Rattle.client_scripts.specs.Plans.{Plan}
use Rattle.client_scripts.specs.ScriptRules.{IsFirstScriptFault}
use Rattle.client_scripts.proofs.Readings.{no_first_fault}
use Rattle.text_fields.specs.declared.version.Version.TheVariants.{Second}
use Rattle.reports.specs.Findings.{Findings}
use Rattle.byte_streams.specs.declared.status.Status.{Status}
use Rattle.byte_streams.specs.declared.status.Status.TheVariants.{Fine, Found}
use Rattle.named_runs.specs.declared.form.Form.{Form}
use Rattle.named_runs.specs.Runs.{IsRunOutput}
use Rattle.selfcheck.specs.ScriptInput.{IsScriptInput, IsShownOf}

pub script_input_or_fault : (bytes : List ℕ) (fault : TextFault) → IsScriptInput bytes
    → IsFirstScriptFault Second bytes fault → ⊥
unfolding IsScriptInput
script_input_or_fault bytes fault told first = no_first_fault Second bytes told.0 fault told.1 first

-- the bytes of which a script's run is shown are the text of a script
pub IsScriptInput-from_shown : (IsReportFor : Plan → Findings → Type 0) (form : Form)
    (bytes : List ℕ) (status : Status) (text : List ℕ)
    → IsShownOf IsReportFor form bytes status text → IsScriptInput bytes
unfolding IsScriptInput
IsScriptInput-from_shown IsReportFor form bytes status text shown = (shown.0, shown.1)

-- the status that comes with a report is `Fine` or `Found`
by_error : (error : Bool) (status : Status) → status ≡ (if error then Found else Fine)
    → (status ≡ Fine) ⊎ (status ≡ Found)
by_error true status e = inr e
by_error false status e = inl e

-- a run of which a report is shown has one of the statuses `Fine` and `Found`
pub run_statuses : (object : SeqSpec) (IsOne : Findings → Type 0) (form : Form) (status : Status)
    (text : List ℕ) → IsRunOutput object IsOne form status text → (status ≡ Fine) ⊎ (status ≡ Found)
run_statuses object IsOne form status text output =
    by_error (list_any any_error output.0.lines) status output.3

-- where no line of a run's report is an error, the status is `Fine`
pub fine_without_error : (object : SeqSpec) (IsOne : Findings → Type 0) (form : Form)
    (status : Status) (text : List ℕ)
    → ((report : Findings) → IsOne report → list_any any_error report.lines ≡ false)
    → IsRunOutput object IsOne form status text → status ≡ Fine
fine_without_error object IsOne form status text none output =
    output.3 ∙ ap (λ (error : Bool). if error then Found else Fine) (none output.0 output.1)
