-- How the book of lines is filled, one line after another.
use Rattle.std.specs.Prelude.{◌≡◌, ℕ, ◌+◌, ◌<◌, ◌≤◌, List, ◌++◌, length, take, drop, Option, Some, IsSome, slice_get}
use Rattle.book_base.specs.declared.call.Call.{Call}
use Rattle.book_base.specs.declared.call.Record.{Record}
use Rattle.book_base.specs.declared.TheConstants.{MAX_CALLERS, MAX_CALLS}
use Rattle.book_base.specs.Book.{Page, IsValid, unanswered_book}
use Rattle.book_base.specs.Refusal.{MayAnswer}
use Rattle.text_fields.specs.Counts.{AreAtMost}
use Rattle.book_text.specs.CallLines.{with_line}
use Rattle.world_core.specs.Calls.{records_of}
use Rattle.report_lines.specs.declared.line.LineEnd.{LineEnd}
use Rattle.report_lines.specs.declared.line.Line.{Line}
use Rattle.report_lines.specs.Lines.{reached_of, book_of_lines, lines_at, line_at}
use Rattle.reports.specs.Findings.{sizes}

-- The record that the end of a line has, where it has one.
abbrev pub answer_in : LineEnd → Option Record
answer_in end = slice_get (records_of (reached_of end)) 0

-- Each line but a caller's last has its record.
abbrev pub HaveRecords : List (List Line) → Type 0
HaveRecords lines = (call : Call) (line : Line) → line_at lines call ≡ Some line
    → call.number + 1 < length (lines_at lines call.caller) → IsSome (answer_in line.end)

-- The lines make a book: there is at least one caller, there are no more callers and calls than a
-- book may have, each line but a caller's last has its record, and the book of the lines is valid.
pub record AreOfABook (lines : List (List Line)) : Type 0 where
  pub some : 1 ≤ length lines
  pub callers : length lines ≤ MAX_CALLERS
  pub calls : AreAtMost MAX_CALLS (sizes lines)
  pub answered : HaveRecords lines
  pub valid : IsValid (book_of_lines lines)

-- The book once the operation of a call's line is put in, and the line's record, where it has one.
abbrev pub with_line_of : List Page → Call → Line → List Page
with_line_of book call line = with_line book call line.op (answer_in line.end)

-- The book may take the record of a call's line: where the line has a record, its view has a count
-- for each caller, and the book stays valid with it.
pub record MayTake (book : List Page) (call : Call) (line : Line) : Type 0 where
  pub wide : (r : Record) → answer_in line.end ≡ Some r → length r.view ≡ length book
  pub may : (r : Record) → answer_in line.end ≡ Some r → MayAnswer book call.caller r.view

-- The book in which the lines of the first n callers are put in, and each call of a later caller
-- has the operation word 0 and no answer.
abbrev pub filled_to : ℕ → List (List Line) → List Page
filled_to n lines = book_of_lines (take n lines) ++ unanswered_book (sizes (drop n lines))
