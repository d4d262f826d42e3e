-- What a worker leaves, said of its own caller alone, so that it stays true whatever the other
-- callers do.
use Rattle.std.specs.Prelude.{◌≡◌, ℕ, List, map}
use Rattle.std.specs.List.{All}
use Rattle.book_base.specs.SeqSpec.{SeqSpec}
use Rattle.book_base.specs.Book.{Page}
use Rattle.book_base.specs.Order.{HasLegalOrder}
use Rattle.world_core.specs.Local.{Local}
use Rattle.world_core.specs.Calls.{calls_in, IsGathered}
use Rattle.report_lines.specs.declared.line.LineEnd.{LineEnd}
use Rattle.report_lines.specs.declared.line.LineEnd.TheVariants.{Pending, Unchecked, Delivered, Error}
use Rattle.report_lines.specs.declared.line.Line.{Line}
use Rattle.report_lines.specs.Lines.{made_of}
use Rattle.report_lines.specs.Phases.{HasMade}
use Rattle.report_lines.specs.Allotments.{phases_of, KeepsTo}

-- The verdict at the end of a line is right by a book that the line's caller, one of n callers with
-- local `l`, gathered at the line's seen cut: of a delivered line this book has a legal order, and
-- of an error line it has none. A pending or an unchecked line has no verdict.
abbrev pub IsJudgedBy : SeqSpec → ℕ → Local → LineEnd → Type 0
IsJudgedBy spec n l Pending = Unit {0}
IsJudgedBy spec n l (Unchecked r) = Unit {0}
IsJudgedBy spec n l (Delivered r cut) = (book : List Page) × IsGathered n l cut book
    × HasLegalOrder spec book
IsJudgedBy spec n l (Error r cut) = (book : List Page) × IsGathered n l cut book
    × ¬ HasLegalOrder spec book

-- The local `l` and the lines `own` are what a worker may leave its caller with, which is one of n
-- callers, after it was given these operations and this allotment.
pub record HasWorked (spec : SeqSpec) (n : ℕ) (operations : List ℕ) (allotment : ℕ) (l : Local)
    (own : List Line) : Type 0 where
  -- there is one line for each call of the local, in order, with how far that call came; so the cut
  -- of a line is the seen cut of its call
  pub calls : map made_of own ≡ calls_in l
  -- the caller made all phases of its allotment, or stopped at an error
  pub made : HasMade operations (phases_of allotment own) l
  -- no line follows an error line, and the caller made no more phases than its allotment
  pub keeps : KeepsTo allotment own
  -- each line's verdict is right by a book that the caller gathered at the line's seen cut
  pub judged : All (λ (line : Line). IsJudgedBy spec n l line.end) own
