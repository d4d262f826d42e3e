use Rattle.std.proofs.Common.{◌≡◌, ℕ, ◌<◌, length, get_or}
use Rattle.report_lines.specs.Lines.{lines_at}
use Rattle.reports.specs.ReportLayout.{lines_in}
use Rattle.reports.proofs.book.sizes_of.Given as goal

abbrev pub invariant-loop-caller : goal.invariant-loop-caller
invariant-loop-caller l = record {
  wide : length l.counts ≡ length l.callers;
  counts : (i : ℕ) → i < l.caller → get_or l.counts i 0 ≡ length (lines_at (lines_in l.callers) i);
}
