-- What a lawful report says of its error lines.
use Rattle.std.specs.Prelude.{◌≡◌, ℕ, true, List, map}
use Rattle.std.specs.List.{list_any}
use Rattle.book_base.specs.SeqSpec.{SeqSpec}
use Rattle.book_base.specs.Book.{Page}
use Rattle.book_base.specs.Order.{HasLegalOrder}
use Rattle.world_core.specs.Shape.{Shape}
use Rattle.world_core.specs.World.{Step, IsRun, end_of}
use Rattle.world_core.specs.History.{IsLinearizable, history_of}
use Rattle.world_core.specs.Calls.{calls_in}
use Rattle.report_lines.specs.declared.line.Line.{Line}
use Rattle.report_lines.specs.Lines.{calls_of, any_error, AreLinesOf}
use Rattle.report_lines.specs.Lawful.{IsLawful}
use Rattle.reports.specs.Findings.{IsWitness}

-- The witness of a lawful report, the book at the seen cut of its first error line, has no legal
-- order.
abbrev pub WitnessesHaveNoOrder : Type 0
WitnessesHaveNoOrder =
    (spec : SeqSpec) (s : Shape) (operations : List (List ℕ))
    (allotments : List ℕ) (lines : List (List Line)) (book : List Page)
    → IsLawful spec s operations allotments lines → IsWitness lines book
    → ¬ HasLegalOrder spec book

-- No run that ends with the calls of these lines has a linearizable object history, whatever the
-- run's program and cap, and whatever the verdicts of the lines.
abbrev pub NoLinearizableRunHasTheseCalls : SeqSpec → List (List Line) → Type 0
NoLinearizableRunHasTheseCalls spec lines =
    (t : Shape) (steps : List Step) → IsRun t steps → map calls_in (end_of t steps).locals
    ≡ calls_of lines → ¬ IsLinearizable spec (history_of t steps)

-- Where a lawful report has an error line, no run that ends with the report's calls has a
-- linearizable object history.
abbrev pub NoRunLeavesAnError : Type 0
NoRunLeavesAnError =
    (spec : SeqSpec) (s : Shape) (operations : List (List ℕ))
    (allotments : List ℕ) (lines : List (List Line))
    → IsLawful spec s operations allotments lines → list_any any_error lines ≡ true
    → NoLinearizableRunHasTheseCalls spec lines

-- No run that ends with the calls of these lines, and for which each verdict is right, has a
-- linearizable object history. Lines with a false error meet this, since they are the lines of no
-- run.
abbrev pub NoLinearizableRunHasTheseLines : SeqSpec → List (List Line) → Type 0
NoLinearizableRunHasTheseLines spec lines =
    (t : Shape) (steps : List Step) → IsRun t steps
    → AreLinesOf spec (end_of t steps).locals lines
    → ¬ IsLinearizable spec (history_of t steps)
