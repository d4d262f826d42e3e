-- When the lines of a reachable world's locals are a lawful report, and what holds of each lawful
-- report.
use Rattle.std.specs.Prelude.{◌≡◌, ℕ, ◌+◌, ◌<◌, List, length, Some, None, slice_get, slice_index}
use Rattle.book_base.specs.declared.call.Call.{Call}
use Rattle.book_base.specs.declared.call.Record.{Record}
use Rattle.book_base.specs.SeqSpec.{SeqSpec}
use Rattle.book_base.specs.Cut.{IsWithin}
use Rattle.book_base.specs.Book.{answered}
use Rattle.world_core.specs.declared.region.Region.TheVariants.{M}
use Rattle.world_core.specs.Shape.{Shape}
use Rattle.world_core.specs.Local.{Local}
use Rattle.world_core.specs.World.{Step, IsRun, end_of}
use Rattle.world_core.specs.History.{IsLinearizable, history_of}
use Rattle.world_core.specs.Calls.{AreTogether, local_at}
use Rattle.world_laws.specs.Cuts.{WereOwnCounts}
use Rattle.report_lines.specs.declared.line.LineEnd.TheVariants.{Delivered}
use Rattle.report_lines.specs.declared.line.Line.{Line}
use Rattle.report_lines.specs.Lines.{book_of_lines, lines_at, seen_at, delivered_at, error_at, AreLinesOf}
use Rattle.report_lines.specs.Phases.{HasMade}
use Rattle.report_lines.specs.Allotments.{operations_at, phases_of}
use Rattle.report_lines.specs.Lawful.{IsAllotted, IsLawful}

-- Each caller's lines are those of its operations and its allotment, and its local has made as many
-- phases as these lines show.
pub record HaveMade (s : Shape) (operations : List (List ℕ)) (allotments : List ℕ)
    (locals : List Local) (lines : List (List Line)) : Type 0 where
  pub allotted : (i : ℕ) → i < s.callers
      → IsAllotted (operations_at operations i) (slice_index allotments i) (lines_at lines i)
  pub made : (i : ℕ) → i < s.callers → HasMade (operations_at operations i)
      (phases_of (slice_index allotments i) (lines_at lines i)) (local_at locals i)

-- The lines of locals that are together are a lawful report where each caller has the lines of its
-- allotment and has made the phases that they show.
abbrev pub WorldsAreLawful : Type 0
WorldsAreLawful =
    (spec : SeqSpec) (s : Shape) (operations : List (List ℕ))
    (allotments : List ℕ) (locals : List Local) (lines : List (List Line))
    → AreTogether s locals → AreLinesOf spec locals lines
    → HaveMade s operations allotments locals lines
    → IsLawful spec s operations allotments lines

-- Locals have at most one list of lines, verdicts included.
abbrev pub LocalsDetermineLines : Type 0
LocalsDetermineLines =
    (spec : SeqSpec) (locals : List Local)
    (lines others : List (List Line))
    → AreLinesOf spec locals lines → AreLinesOf spec locals others → lines ≡ others

-- In a lawful report each delivered line's seen cut is within each error line's seen cut, and isn't
-- equal to it.
abbrev pub ErrorsAreFinal : Type 0
ErrorsAreFinal =
    (spec : SeqSpec) (s : Shape) (operations : List (List ℕ))
    (allotments : List ℕ) (lines : List (List Line)) (a b : Call) (x y : List ℕ)
    → IsLawful spec s operations allotments lines → delivered_at lines a ≡ Some x
    → error_at lines b ≡ Some y
    → IsWithin x y × ¬ IsWithin y x

-- The seen cut of a line of locals that are together counts for each caller at most as many records
-- as the book of the lines has of it.
abbrev pub SeenCutsAreInTheBook : Type 0
SeenCutsAreInTheBook =
    (spec : SeqSpec) (s : Shape) (locals : List Local)
    (lines : List (List Line)) (call : Call) (cut : List ℕ)
    → AreTogether s locals → AreLinesOf spec locals lines → seen_at lines call ≡ Some cut
    → IsWithin cut (answered (book_of_lines lines))

-- Of a caller's lines that are right for its allotment, each but the last is delivered.
abbrev pub LinesBeforeTheLastAreDelivered : Type 0
LinesBeforeTheLastAreDelivered =
    (operations : List ℕ) (allotment : ℕ) (own : List Line) (k : ℕ) (line : Line)
    → IsAllotted operations allotment own → slice_get own k ≡ Some line
    → k + 1 < length own → (r : Record) × (cut : List ℕ) × (line.end ≡ Delivered r cut)

-- The seen cut of a line was right at one moment: at some moment of a run that ends with these
-- locals, each caller had published exactly as many records as the cut counts for it.
abbrev pub SeenCutsWerePublished : Type 0
SeenCutsWerePublished =
    (spec : SeqSpec) (s : Shape) (locals : List Local)
    (lines : List (List Line)) (call : Call) (cut : List ℕ)
    → AreTogether s locals → AreLinesOf spec locals lines → seen_at lines call ≡ Some cut
    → WereOwnCounts s locals M cut

-- Where the object history of a run is linearizable, none of the lines of the run's last locals is
-- an error.
abbrev pub LinearizableRunsHaveNoError : Type 0
LinearizableRunsHaveNoError =
    (spec : SeqSpec) (s : Shape) (steps : List Step)
    (lines : List (List Line)) (call : Call) → IsRun s steps
    → IsLinearizable spec (history_of s steps)
    → AreLinesOf spec (end_of s steps).locals lines → error_at lines call ≡ None
