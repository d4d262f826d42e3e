use Rattle.std.proofs.Common.{◌≡◌}
use Rattle.reports.specs.ReportLayout.{lines_in}
use Rattle.reports.specs.Filling.{filled_to}
use Rattle.reports.proofs.book.book_of.Given as goal

abbrev pub invariant-loop-caller : goal.invariant-loop-caller
invariant-loop-caller l = l.book ≡ filled_to l.caller (lines_in l.callers)
