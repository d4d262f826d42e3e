use Rattle.std.proofs.Common.{◌≡◌, ℕ, max, length, take, get_or}
use Rattle.book_base.specs.BookAt.{greatest_count}
use Rattle.report_lines.specs.Lines.{lines_at}
use Rattle.named_runs.specs.Certificates.{delivered_cuts_in}
use Rattle.named_runs.proofs.delivered.raise_by_lines.Given as goal

abbrev pub invariant-loop-number : goal.invariant-loop-number
invariant-loop-number l = record {
  wide : length l.greatest ≡ length l.report.lines;
  counts : (i : ℕ) → get_or l.greatest i 0 ≡ max (get_or l.fn.greatest i 0)
      (greatest_count (delivered_cuts_in (take l.number (lines_at l.report.lines l.caller))) i);
}
