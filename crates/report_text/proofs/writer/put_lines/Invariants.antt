use Rattle.std.proofs.Common.{◌≡◌, ◌++◌, take}
use Rattle.text_fields.specs.Lines.{text_of, by_number}
use Rattle.reports.specs.Grammar.{caller_lines}
use Rattle.report_text.proofs.writer.put_lines.Given as goal

abbrev pub invariant-loop-caller : goal.invariant-loop-caller
invariant-loop-caller l = l.out.items ≡ l.initial.out.items
    ++ text_of (by_number (caller_lines l.report.kind) 0 (take l.caller l.report.lines))
