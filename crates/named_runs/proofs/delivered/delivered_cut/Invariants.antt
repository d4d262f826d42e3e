use Rattle.std.proofs.Common.{◌≡◌, ℕ, length, take, get_or}
use Rattle.book_base.specs.BookAt.{greatest_count}
use Rattle.report_lines.specs.Lawful.{delivered_cuts}
use Rattle.named_runs.proofs.delivered.delivered_cut.Given as goal

abbrev pub invariant-loop-caller : goal.invariant-loop-caller
invariant-loop-caller l = record {
  wide : length l.greatest ≡ length l.report.lines;
  counts : (i : ℕ)
      → get_or l.greatest i 0 ≡ greatest_count (delivered_cuts (take l.caller l.report.lines)) i;
}
