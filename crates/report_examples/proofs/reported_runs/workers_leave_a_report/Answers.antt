use Rattle.std.proofs.Common.{◌≤◌, [], ◌∷◌, refl, arith}
use Rattle.world_examples.specs.Schedules.{pair, tenfold}
use Rattle.world_examples.specs.JudgedRuns.{locals_after}
use Rattle.report_examples.specs.Lines.{call}
use Rattle.report_examples.specs.ReportedRuns.{five_and_six, one_unchecked, one_judging}
use Rattle.report_lines.proofs.Workers.{workers_are_lawful}
use Rattle.report_examples.proofs.Workers.{judging_together, read, both_worked, unread}
use Rattle.report_examples.proofs.reported_runs.workers_leave_a_report.Goals as goal

pub returns-clause-worked : goal.returns-clause-worked
returns-clause-worked c = both_worked

pub returns-clause-lawful : goal.returns-clause-lawful
returns-clause-lawful c = workers_are_lawful tenfold pair five_and_six (4 ∷ 5 ∷ [])
    (locals_after one_judging) one_unchecked judging_together both_worked

pub returns-clause-unpublished : goal.returns-clause-unpublished
returns-clause-unpublished c h = let low : 1 ≤ 0 = h.seen.within (call 1 0) (1 ∷ 1 ∷ []) refl 0 in
    absurd (omega (arith, low))

pub returns-clause-unread : goal.returns-clause-unread
returns-clause-unread c = unread

pub returns-clause-read : goal.returns-clause-read
returns-clause-read c = read
