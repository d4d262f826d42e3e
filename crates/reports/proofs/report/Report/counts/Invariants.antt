use Rattle.std.proofs.Common.{◌≡◌, length, take, sum_by}
use Rattle.report_lines.specs.Lines.{is_error}
use Rattle.reports.specs.Tally.{is_delivered, lines_that}
use Rattle.reports.proofs.report.Report.counts.Given as goal

abbrev pub invariant-loop-caller : goal.invariant-loop-caller
invariant-loop-caller l = record {
  calls : l.counts.calls ≡ sum_by length (take l.caller l.self.lines);
  delivered : l.counts.delivered ≡ lines_that is_delivered (take l.caller l.self.lines);
  errors : l.counts.errors ≡ lines_that is_error (take l.caller l.self.lines);
}
