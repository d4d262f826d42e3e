-- What the runs of an object inside the world determine of a report of its callers.
use Rattle.std.proofs.Common.{◌≡◌, ◌∙◌, sym, subst, ap, ℕ, ◌<◌, List, [], length, map, take, slice_index_or, arith}
use Rattle.std.specs.List.{All}
use Rattle.std.proofs.Math.ListN.{get_or-map}
use Rattle.book_base.specs.SeqSpec.{SeqSpec}
use Rattle.shared_words.specs.declared.entry.Entry.{Entry}
use Rattle.world_core.specs.Shape.{Shape}
use Rattle.world_core.specs.Local.{Local}
use Rattle.world_core.specs.Calls.{Made, calls_in, local_at}
use Rattle.report_lines.specs.declared.line.Line.{Line}
use Rattle.report_lines.specs.Lines.{made_of}
use Rattle.report_lines.specs.Phases.{asked, operations_of, answers_in}
use Rattle.report_lines.specs.Allotments.{operations_at}
use Rattle.report_lines.proofs.Runs.{calls_at}
use Rattle.client_scripts.specs.Plans.{Plan}
use Rattle.reports.specs.Findings.{Findings}
use Rattle.world_objects.specs.OneWord.{one_word_shape}
use Rattle.world_objects.specs.TallyAndCell.{tally, cell}
use Rattle.world_objects.specs.LogProgram.{log_shape}
use Rattle.test_objects.specs.Replays.{last_reply}
use Rattle.test_objects.specs.Forms.{IsTallyReply, IsCellReply}
use Rattle.core_runs.specs.Logged.{IsLoggedBy, AreFormed}
use Rattle.core_runs.specs.Runs.{HaveMadePhases}
use Rattle.core_runs.proofs.CoreLogs.{runs_of_logs_are_logged}
use Rattle.core_runs.proofs.OneWordReplies.{runs_of_tallies_are_formed, runs_of_cells_are_formed}
use Rattle.run_report.specs.Reporting.{IsReportOf}
use Rattle.core_runs.specs.LoggedReports.{phases_in, calls_of_lines, ReportsOfLogsAreLogged, ReportsOfTalliesAreFormed, ReportsOfCellsAreFormed}

-- calls that are in one log are in it also for an equal number of callers and equal lists of calls
logged_as : (answer : List Entry → ℕ) (n m : ℕ) (phases : ℕ → ℕ) (calls others : ℕ → List Made)
    → m ≡ n → ((i : ℕ) → calls i ≡ others i)
    → IsLoggedBy answer n phases calls → IsLoggedBy answer m phases others
logged_as answer n m phases calls others same are h =
    record {
      log = h.log;
      callers = subst (λ (k : ℕ). All (λ (e : Entry). e.caller < k) h.log) (sym same) h.callers;
      entries = λ i low. h.entries i (omega (arith, low, same))
          ∙ ap (λ (cs : List Made). take (asked (phases i)) (operations_of cs)) (are i);
      replies = λ i low. h.replies i (omega (arith, low, same)) ∙ ap answers_in (are i);
    }

formed_as : (form : ℕ → ℕ → Type 0) (n m : ℕ) (calls others : ℕ → List Made) → m ≡ n
    → ((i : ℕ) → calls i ≡ others i) → AreFormed form n calls → AreFormed form m others
formed_as form n m calls others same are h i low =
    subst (λ (cs : List Made). All (λ (pair : ℕ × ℕ). form pair.0 pair.1) (answers_in cs)) (are i)
    (h i (omega (arith, low, same)))

module _ (judge : SeqSpec) (s : Shape) (locals : List Local)
    (plan : Plan) (allotments : List ℕ) (findings : Findings)
    (is : IsReportOf judge s locals plan allotments findings) where
  -- the calls of the locals are those of the lines
  calls_are : (i : ℕ) → calls_in (local_at locals i) ≡ calls_of_lines findings i
  calls_are i =
      sym (calls_at locals i)
      ∙ ap (λ (all : List (List Made)). slice_index_or all i []) (sym is.lines.calls)
      ∙ get_or-map (λ (own : List Line). map made_of own) findings.lines i []

  have_made : HaveMadePhases s (operations_at plan.operations)
      (phases_in allotments findings) locals
  have_made = record { together = is.together; made = is.made }

pub reports_of_logs_are_logged : ReportsOfLogsAreLogged
reports_of_logs_are_logged spec judge n cap locals plan allotments findings is =
    let s : Shape = log_shape spec n cap in
    logged_as (last_reply spec.next spec.init) n (length findings.lines)
    (phases_in allotments findings)
    (λ i. calls_in (local_at locals i)) (calls_of_lines findings) is.lawful.callers
    (calls_are judge s locals plan allotments findings is)
    (runs_of_logs_are_logged spec n cap (operations_at plan.operations)
    (phases_in allotments findings) locals
    (have_made judge s locals plan allotments findings is) is.asked)

pub reports_of_tallies_are_formed : ReportsOfTalliesAreFormed
reports_of_tallies_are_formed judge n cap locals plan allotments findings is =
    let s : Shape = one_word_shape n cap tally in
    formed_as IsTallyReply n (length findings.lines) (λ i. calls_in (local_at locals i))
    (calls_of_lines findings) is.lawful.callers
    (calls_are judge s locals plan allotments findings is)
    (runs_of_tallies_are_formed n cap (operations_at plan.operations)
    (phases_in allotments findings) locals
    (have_made judge s locals plan allotments findings is))

pub reports_of_cells_are_formed : ReportsOfCellsAreFormed
reports_of_cells_are_formed judge n cap locals plan allotments findings is =
    let s : Shape = one_word_shape n cap cell in
    formed_as IsCellReply n (length findings.lines) (λ i. calls_in (local_at locals i))
    (calls_of_lines findings) is.lawful.callers
    (calls_are judge s locals plan allotments findings is)
    (runs_of_cells_are_formed n cap (operations_at plan.operations) (phases_in allotments findings)
    locals (have_made judge s locals plan allotments findings is))
