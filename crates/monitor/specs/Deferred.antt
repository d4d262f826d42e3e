-- What clients that judge no call leave, and the book of all their lines.
use Rattle.std.specs.Prelude.{◌≡◌, ℕ, ◌<◌, List, length, map}
use Rattle.book_base.specs.SeqSpec.{SeqSpec}
use Rattle.world_core.specs.Local.{Local}
use Rattle.world_core.specs.Calls.{page_with, calls_in, book_in, local_at}
use Rattle.report_lines.specs.declared.line.Line.{Line}
use Rattle.report_lines.specs.Lines.{made_of, book_of_lines, lines_at}
use Rattle.report_lines.specs.Phases.{HasMade}
use Rattle.client_calls.specs.Ends.{SaysDeferred, HasLeftAt}

-- A caller's lines have the operation of each of its calls, and the call's record where it has one.
abbrev pub HavePage : List Line → Local → Type 0
HavePage own l = page_with (map made_of own) ≡ page_with (calls_in l)

-- A client made all phases of its allotment, whatever the replies to its calls, and its lines have
-- the operations and the records of its calls.
pub record HasDeferred (operations : List ℕ) (allotment p : ℕ) (l : Local)
    (own : List Line) : Type 0 where
  pub page : HavePage own l
  pub all : p ≡ allotment
  pub made : HasMade operations allotment l

-- Each client whose calls end without a judgement makes all phases of its allotment, and its lines
-- have the operations and the records of its calls.
abbrev pub DeferringClientsMakeAll : Type 0
DeferringClientsMakeAll =
    (object : SeqSpec) (n : ℕ) (operations : List ℕ) (allotment p : ℕ) (l : Local)
    (own : List Line)
    → HasLeftAt (SaysDeferred object) n operations allotment p l own
    → HasDeferred operations allotment p l own

-- There is a list of lines for each local, with the operations and the records of its calls. The
-- list of a monitor, which makes no call, is empty.
pub record HavePages (locals : List Local) (lines : List (List Line)) : Type 0 where
  pub as_many : length lines ≡ length locals
  pub pages : (i : ℕ) → i < length lines → HavePage (lines_at lines i) (local_at locals i)

-- The book of lines that have the callers' pages is the book of the callers.
abbrev pub LinesAreTheBook : Type 0
LinesAreTheBook = (locals : List Local) (lines : List (List Line)) → HavePages locals lines
    → book_of_lines lines ≡ book_in locals
