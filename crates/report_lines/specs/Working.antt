-- The lines that the workers of all callers leave are a lawful report, though each worker is
-- described by its own caller alone.
use Rattle.std.specs.Prelude.{◌≡◌, ℕ, ◌+◌, ◌*◌, ◌<◌, ◌≤◌, true, false, List, [], ◌∷◌, ◌++◌, length, map, slice_index}
use Rattle.std.specs.List.{All}
use Rattle.book_base.specs.SeqSpec.{SeqSpec}
use Rattle.world_core.specs.Shape.{Shape}
use Rattle.world_core.specs.Local.{Local}
use Rattle.world_core.specs.Calls.{AreTogether, calls_in, local_at}
use Rattle.world_laws.specs.Gathering.{HasPeekedAll}
use Rattle.report_lines.specs.declared.line.LineEnd.{LineEnd}
use Rattle.report_lines.specs.declared.line.Line.{Line}
use Rattle.report_lines.specs.Lines.{made_of, lines_at, is_error, any_error, AreLinesOf}
use Rattle.report_lines.specs.Phases.{HasMade}
use Rattle.report_lines.specs.Allotments.{operations_at}
use Rattle.report_lines.specs.Lawful.{IsAllotted, IsLawful}
use Rattle.report_lines.specs.Workers.{IsJudgedBy, HasWorked}

-- A verdict that is right by a gathered book stays right by it when the book's caller has peeked
-- more.
abbrev pub VerdictsStay : Type 0
VerdictsStay =
    (spec : SeqSpec) (n : ℕ) (l m : Local) (end : LineEnd)
    → HasPeekedAll l m → IsJudgedBy spec n l end → IsJudgedBy spec n m end

-- What a worker leaves in its caller's local and lines is right (`HasWorked`) where it made all
-- phases of its allotment and met no error.
abbrev pub WorkersGoThrough : Type 0
WorkersGoThrough =
    (spec : SeqSpec) (n : ℕ) (operations : List ℕ) (allotment : ℕ)
    (l : Local) (own : List Line)
    → map made_of own ≡ calls_in l → any_error own ≡ false → HasMade operations allotment l
    → All (λ (line : Line). IsJudgedBy spec n l line.end) own
    → HasWorked spec n operations allotment l own

-- What a worker leaves in its caller's local and lines is right (`HasWorked`) where it halted at an
-- error, after lines without one.
abbrev pub WorkersHalt : Type 0
WorkersHalt =
    (spec : SeqSpec) (n : ℕ) (operations : List ℕ) (allotment : ℕ)
    (l : Local) (own : List Line) (line : Line)
    → map made_of (own ++ line ∷ []) ≡ calls_in l → any_error own ≡ false → is_error line ≡ true
    → HasMade operations (5 * (length own + 1)) l → 5 * (length own + 1) ≤ allotment
    → All (λ (line : Line). IsJudgedBy spec n l line.end) (own ++ line ∷ [])
    → HasWorked spec n operations allotment l (own ++ line ∷ [])

-- The lines that a worker leaves are right for its operations and its allotment.
abbrev pub WorkersKeepToTheirAllotments : Type 0
WorkersKeepToTheirAllotments =
    (spec : SeqSpec) (n : ℕ) (operations : List ℕ) (allotment : ℕ)
    (l : Local) (own : List Line)
    → HasWorked spec n operations allotment l own → IsAllotted operations allotment own

-- For each caller of a world, its local and its lines are what a worker may leave it with, after it
-- was given the caller's operations and allotment.
pub record HaveWorked (spec : SeqSpec) (s : Shape) (operations : List (List ℕ))
    (allotments : List ℕ) (locals : List Local) (lines : List (List Line)) : Type 0 where
  pub callers : length lines ≡ s.callers
  pub worked : (i : ℕ) → i < s.callers → HasWorked spec s.callers (operations_at operations i)
      (slice_index allotments i) (local_at locals i) (lines_at lines i)

-- The lines that all workers leave are those of the locals that they leave: each verdict is right
-- by the book of all lines, since the book that was gathered for it is the book of all lines at the
-- line's seen cut.
abbrev pub WorkersLeaveTheLines : Type 0
WorkersLeaveTheLines =
    (spec : SeqSpec) (s : Shape) (operations : List (List ℕ))
    (allotments : List ℕ) (locals : List Local) (lines : List (List Line))
    → AreTogether s locals → HaveWorked spec s operations allotments locals lines
    → AreLinesOf spec locals lines

-- The lines that all workers leave are a lawful report.
abbrev pub WorkersAreLawful : Type 0
WorkersAreLawful =
    (spec : SeqSpec) (s : Shape) (operations : List (List ℕ))
    (allotments : List ℕ) (locals : List Local) (lines : List (List Line))
    → AreTogether s locals → HaveWorked spec s operations allotments locals lines
    → IsLawful spec s operations allotments lines
