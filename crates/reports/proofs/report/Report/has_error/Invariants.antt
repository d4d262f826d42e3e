use Rattle.std.proofs.Common.{◌≡◌, false, take}
use Rattle.std.specs.List.{list_any}
use Rattle.report_lines.specs.Lines.{any_error}
use Rattle.reports.proofs.report.Report.has_error.Given as goal

abbrev pub invariant-loop-caller : goal.invariant-loop-caller
invariant-loop-caller l = list_any any_error (take l.caller l.self.lines) ≡ false
