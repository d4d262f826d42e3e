use Rattle.std.proofs.Common.{◌≡◌, ◌++◌, take}
use Rattle.text_fields.specs.Lines.{text_of, by_number}
use Rattle.report_lines.specs.Lines.{lines_at}
use Rattle.reports.specs.Grammar.{call_line}
use Rattle.report_text.proofs.writer.put_caller.Given as goal

abbrev pub invariant-loop-number : goal.invariant-loop-number
invariant-loop-number l = l.out.items ≡ l.initial.out.items ++ text_of (by_number
    (call_line l.report.kind l.caller) 0 (take l.number (lines_at l.report.lines l.caller)))
