-- How many lines a report has, by their ends.
use Rattle.std.specs.Prelude.{ℕ, Bool, List, sum_by, count_by, length, is_some}
use Rattle.report_lines.specs.declared.line.Line.{Line}
use Rattle.report_lines.specs.Lines.{delivered_in, is_error}
use Rattle.reports.specs.declared.counts.Counts.{Counts}

-- Whether a line is delivered.
abbrev pub is_delivered : Line → Bool
is_delivered line = is_some (delivered_in line.end)

-- How many lines of all callers pass a test.
abbrev pub lines_that : (Line → Bool) → List (List Line) → ℕ
lines_that test lines = sum_by (count_by test) lines

-- How many lines there are, how many of them are delivered, and how many are errors.
abbrev pub counts_of : List (List Line) → Counts
counts_of lines = record {
  calls = sum_by length lines;
  delivered = lines_that is_delivered lines;
  errors = lines_that is_error lines;
}
