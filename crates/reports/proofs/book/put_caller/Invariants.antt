use Rattle.std.proofs.Common.{◌≡◌}
use Rattle.reports.specs.ReportLayout.{lines_in}
use Rattle.reports.proofs.Filling.{filling}
use Rattle.reports.proofs.book.put_caller.Given as goal

abbrev pub invariant-loop-number : goal.invariant-loop-number
invariant-loop-number l = l.book ≡ filling (lines_in l.callers) l.caller l.number
