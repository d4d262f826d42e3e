use Rattle.std.proofs.Common.{◌≡◌, ◌<◌, None}
use Rattle.book_base.specs.declared.call.Call.{Call}
use Rattle.report_lines.specs.Lines.{error_at}
use Rattle.given_book.proofs.error_line.first_error_of.Given as goal

abbrev pub invariant-loop-caller : goal.invariant-loop-caller
invariant-loop-caller l = (other : Call) → other.caller < l.caller
    → error_at l.report.lines other ≡ None
