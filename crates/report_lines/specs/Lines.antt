-- The lines of a report: the calls that they tell of, and the verdicts on them.
use Rattle.std.specs.Prelude.{◌≡◌, ℕ, Bool, List, [], map, Option, Some, None, is_some, option_and_then, slice_get, slice_index_or}
use Rattle.std.specs.List.{list_any}
use Rattle.book_base.specs.declared.call.Call.{Call}
use Rattle.book_base.specs.SeqSpec.{SeqSpec}
use Rattle.book_base.specs.Book.{Page}
use Rattle.book_base.specs.BookAt.{book_at}
use Rattle.book_base.specs.Order.{HasLegalOrder}
use Rattle.world_core.specs.Local.{Local}
use Rattle.world_core.specs.Calls.{Reached, Is_announced, Has_record, Has_seen, Made, calls_in, book_of}
use Rattle.report_lines.specs.declared.line.LineEnd.{LineEnd}
use Rattle.report_lines.specs.declared.line.LineEnd.TheVariants.{Pending, Unchecked, Delivered, Error}
use Rattle.report_lines.specs.declared.line.Line.{Line}

-- How far a call has come whose line has this end: it is announced, has its record, or has its seen
-- cut too.
abbrev pub reached_of : LineEnd → Reached
reached_of Pending = Is_announced
reached_of (Unchecked r) = Has_record r
reached_of (Delivered r cut) = Has_seen r cut
reached_of (Error r cut) = Has_seen r cut

-- The call that a line tells of: its operation, and how far it has come.
abbrev pub made_of : Line → Made
made_of line = record { operation = line.op; reached = reached_of line.end }

-- The calls that all lines tell of, as one list for each caller.
abbrev pub calls_of : List (List Line) → List (List Made)
calls_of lines = map (λ (own : List Line). map made_of own) lines

-- The book of all callers' lines: their calls, and the records of those that have one.
abbrev pub book_of_lines : List (List Line) → List Page
book_of_lines lines = book_of (calls_of lines)

-- The lines of caller `i`; the empty list where there is no caller `i`.
abbrev pub lines_at : List (List Line) → ℕ → List Line
lines_at lines i = slice_index_or lines i []

-- The line of a call, where there is one.
abbrev pub line_at : List (List Line) → Call → Option Line
line_at lines call = slice_get (lines_at lines call.caller) call.number

-- The seen cut of a line with this end, where the end has one.
abbrev pub seen_in : LineEnd → Option (List ℕ)
seen_in Pending = None
seen_in (Unchecked r) = None
seen_in (Delivered r cut) = Some cut
seen_in (Error r cut) = Some cut

-- The seen cut of a line with this end, where the line is delivered.
abbrev pub delivered_in : LineEnd → Option (List ℕ)
delivered_in Pending = None
delivered_in (Unchecked r) = None
delivered_in (Delivered r cut) = Some cut
delivered_in (Error r cut) = None

-- The seen cut of a line with this end, where the line is an error.
abbrev pub error_in : LineEnd → Option (List ℕ)
error_in Pending = None
error_in (Unchecked r) = None
error_in (Delivered r cut) = None
error_in (Error r cut) = Some cut

-- The seen cut of a call, where its line has one.
abbrev pub seen_at : List (List Line) → Call → Option (List ℕ)
seen_at lines call = option_and_then (λ (line : Line). seen_in line.end) (line_at lines call)

-- The seen cut of a call, where its line is delivered.
abbrev pub delivered_at : List (List Line) → Call → Option (List ℕ)
delivered_at lines call =
    option_and_then (λ (line : Line). delivered_in line.end) (line_at lines call)

-- The seen cut of a call, where its line is an error.
abbrev pub error_at : List (List Line) → Call → Option (List ℕ)
error_at lines call = option_and_then (λ (line : Line). error_in line.end) (line_at lines call)

-- Whether a line is an error.
abbrev pub is_error : Line → Bool
is_error line = is_some (error_in line.end)

-- Whether one of some lines is an error.
abbrev pub any_error : List Line → Bool
any_error lines = list_any is_error lines

-- The verdict at the end of a line is right, by this book of all callers: a line is delivered where
-- the book at its seen cut has a legal order, and an error where that book has none. A pending or
-- an unchecked line has no verdict.
abbrev pub IsJudged : SeqSpec → List Page → LineEnd → Type 0
IsJudged spec book Pending = Unit {0}
IsJudged spec book (Unchecked r) = Unit {0}
IsJudged spec book (Delivered r cut) = HasLegalOrder spec (book_at cut book)
IsJudged spec book (Error r cut) = ¬ HasLegalOrder spec (book_at cut book)

-- These are the lines of callers with these locals: one line for each call of each local, in order,
-- and with the right verdict by the book of all the lines.
pub record AreLinesOf (spec : SeqSpec) (locals : List Local)
    (lines : List (List Line)) : Type 0 where
  pub calls : calls_of lines ≡ map calls_in locals
  pub judged : (call : Call) (line : Line) → line_at lines call ≡ Some line
      → IsJudged spec (book_of_lines lines) line.end

-- In lines that have the right verdicts by the book of all of them, the book at the seen cut of an
-- error has no legal order, and the book at the seen cut of a delivered call has one.
abbrev pub VerdictsAreAtSeenCuts : Type 0
VerdictsAreAtSeenCuts =
    (spec : SeqSpec) (locals : List Local) (lines : List (List Line))
    (call : Call) (cut : List ℕ) → AreLinesOf spec locals lines
    → (error_at lines call ≡ Some cut → (seen_at lines call ≡ Some cut)
    × ¬ HasLegalOrder spec (book_at cut (book_of_lines lines)))
    × (delivered_at lines call ≡ Some cut → (seen_at lines call ≡ Some cut)
    × HasLegalOrder spec (book_at cut (book_of_lines lines)))
