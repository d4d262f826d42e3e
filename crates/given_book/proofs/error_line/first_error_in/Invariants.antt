use Rattle.std.proofs.Common.{◌≡◌, ℕ, ◌<◌, None}
use Rattle.report_lines.specs.Lines.{error_at}
use Rattle.given_book.proofs.error_line.first_error_in.Given as goal

abbrev pub invariant-loop-number : goal.invariant-loop-number
invariant-loop-number l = (k : ℕ) → k < l.number
    → error_at l.report.lines (record { caller = l.caller; number = k }) ≡ None
