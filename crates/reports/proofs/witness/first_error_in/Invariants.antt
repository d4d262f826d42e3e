use Rattle.std.proofs.Common.{◌≡◌, false, take}
use Rattle.report_lines.specs.Lines.{any_error}
use Rattle.reports.proofs.witness.first_error_in.Given as goal

abbrev pub invariant-loop-line : goal.invariant-loop-line
invariant-loop-line l = any_error (take l.line-index l.lines) ≡ false
