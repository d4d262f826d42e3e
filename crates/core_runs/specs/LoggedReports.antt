-- What the report of a run over an object inside the world says of the calls that this object
-- answered.
use Rattle.std.specs.Prelude.{ℕ, List, length, map, slice_index}
use Rattle.book_base.specs.SeqSpec.{SeqSpec}
use Rattle.world_core.specs.Local.{Local}
use Rattle.world_core.specs.Calls.{Made}
use Rattle.report_lines.specs.Lines.{made_of, lines_at}
use Rattle.report_lines.specs.Allotments.{phases_of}
use Rattle.client_scripts.specs.Plans.{Plan}
use Rattle.reports.specs.Findings.{Findings}
use Rattle.world_objects.specs.OneWord.{one_word_shape}
use Rattle.world_objects.specs.TallyAndCell.{tally, cell}
use Rattle.world_objects.specs.LogProgram.{log_shape}
use Rattle.test_objects.specs.Replays.{last_reply}
use Rattle.test_objects.specs.Forms.{IsTallyReply, IsCellReply}
use Rattle.core_runs.specs.Logged.{IsLoggedBy, AreFormed}
use Rattle.run_report.specs.Reporting.{IsReportOf}

-- How many phases each caller of a report has made.
abbrev pub phases_in : List ℕ → Findings → ℕ → ℕ
phases_in allotments findings i = phases_of (slice_index allotments i) (lines_at findings.lines i)

-- The calls of the lines of each caller of a report.
abbrev pub calls_of_lines : Findings → ℕ → List Made
calls_of_lines findings i = map made_of (lines_at findings.lines i)

-- The calls of a report over the log of a sequential object are in one log, whose answers are that
-- object's, whatever object judged the calls.
abbrev pub ReportsOfLogsAreLogged : Type 0
ReportsOfLogsAreLogged =
    (spec judge : SeqSpec) (n cap : ℕ) (locals : List Local) (plan : Plan)
    (allotments : List ℕ) (findings : Findings)
    → IsReportOf judge (log_shape spec n cap) locals plan allotments findings
    → IsLoggedBy (last_reply spec.next spec.init) (length findings.lines)
    (phases_in allotments findings)
    (calls_of_lines findings)

-- The reply of each answered call of a report over a tally is a value for an increment, and bad for
-- anything else.
abbrev pub ReportsOfTalliesAreFormed : Type 0
ReportsOfTalliesAreFormed =
    (judge : SeqSpec) (n cap : ℕ) (locals : List Local)
    (plan : Plan) (allotments : List ℕ) (findings : Findings)
    → IsReportOf judge (one_word_shape n cap tally) locals plan allotments findings
    → AreFormed IsTallyReply (length findings.lines) (calls_of_lines findings)

-- The reply of each answered call of a report over a cell is done for a write, a value for the
-- read, and bad for anything else.
abbrev pub ReportsOfCellsAreFormed : Type 0
ReportsOfCellsAreFormed =
    (judge : SeqSpec) (n cap : ℕ) (locals : List Local)
    (plan : Plan) (allotments : List ℕ) (findings : Findings)
    → IsReportOf judge (one_word_shape n cap cell) locals plan allotments findings
    → AreFormed IsCellReply (length findings.lines) (calls_of_lines findings)
