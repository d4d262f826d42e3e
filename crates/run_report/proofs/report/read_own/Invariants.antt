use Rattle.std.proofs.Common.{ℕ, ◌<◌, get_or}
use Rattle.report_lines.specs.declared.line.Line.{Line}
use Rattle.run_report.specs.Replies.{HasWord}
use Rattle.run_report.proofs.report.read_own.Given as goal

abbrev pub invariant-loop-line : goal.invariant-loop-line
invariant-loop-line l = (k : ℕ) (d : Line) → k < l.line-index → HasWord (get_or l.lines k d).end
