-- No line of a lawful report of a core object's rows is an error.
use Rattle.std.proofs.Common.{◌≡◌, ◌∙◌, sym, subst, ap, ℕ, false, List, map}
use Rattle.std.specs.List.{list_any}
use Rattle.std.proofs.lemmas.Bool.{false_from_ne_true}
use Rattle.book_base.specs.SeqSpec.{SeqSpec}
use Rattle.world_core.specs.Shape.{Meaning}
use Rattle.world_core.specs.World.{World, Step, IsRun}
use Rattle.world_core.specs.History.{IsLinearizable, history_of}
use Rattle.world_core.specs.Calls.{calls_in}
use Rattle.report_lines.specs.declared.line.Line.{Line}
use Rattle.report_lines.specs.Lines.{any_error}
use Rattle.report_lines.specs.Lawful.{IsLawful}
use Rattle.row_table.specs.declared.rows.Rows.{Rows}
use Rattle.row_table.specs.Callers.{shape_of}
use Rattle.core_objects.specs.CoreObjects.{shape_with, AreOpenedWith}
use Rattle.reports.proofs.LawfulErrors.{no_run_leaves_an_error}

module _ {P : Type 0} (meaning : P → ℕ → ℕ → Meaning) (program : P) (r : Rows P)
    (opened : AreOpenedWith meaning program r) (spec : SeqSpec)
    (linearizes : (n cap : ℕ) (steps : List Step) → IsRun (shape_with (meaning program) n cap) steps
    → IsLinearizable spec (history_of (shape_with (meaning program) n cap) steps)) where
  -- each run of these rows' world is linearizable
  rows_linearize : (steps : List Step) → IsRun (shape_of meaning r) steps
      → IsLinearizable spec (history_of (shape_of meaning r) steps)
  rows_linearize =
      subst (λ (p : P). (steps : List Step) → IsRun (shape_with (meaning p) r.callers r.cap) steps
      → IsLinearizable spec (history_of (shape_with (meaning p) r.callers r.cap) steps))
      (sym opened.program_is) (linearizes r.callers r.cap)

  -- no line is an error, since the lines are those of a run
  pub no_line_is_an_error : (operations : List (List ℕ)) (allotments : List ℕ)
      (lines : List (List Line)) → IsLawful spec (shape_of meaning r) operations allotments lines
      → list_any any_error lines ≡ false
  no_line_is_an_error operations allotments lines lawful =
      let reached = lawful.reached in
      let steps = reached.1.0 in
      false_from_ne_true (list_any any_error lines)
      (λ some. no_run_leaves_an_error spec (shape_of meaning r) operations allotments lines
      lawful some (shape_of meaning r) steps reached.1.1
      (ap (λ (w : World). map calls_in w.locals) reached.1.2 ∙ sym reached.2.calls)
      (rows_linearize steps reached.1.1))
