-- How a report lies in memory.
use Rattle.std.specs.Prelude.{List, map}
use Rattle.seq_objects.specs.declared.kind.Kind.{Kind}
use Rattle.report_lines.specs.declared.line.Line.{Line}
use Rattle.reports.specs.declared.report.Own.{Own}
use Rattle.reports.specs.Findings.{Findings}

-- The lines of each caller, by what a report has in memory.
abbrev pub lines_in : List Own → List (List Line)
lines_in callers = map (λ own. own.lines.items) callers

-- The findings of a report of this kind, by the lines that it has in memory.
abbrev pub findings_in : Kind → List Own → Findings
findings_in kind callers = record { kind = kind; lines = lines_in callers }
