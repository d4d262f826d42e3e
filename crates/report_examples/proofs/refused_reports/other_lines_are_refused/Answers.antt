use Rattle.std.proofs.Common.{[], ◌∷◌, refl}
use Rattle.world_examples.specs.Schedules.{two_calls, tenfold, silent}
use Rattle.world_examples.specs.JudgedRuns.{locals_after}
use Rattle.report_examples.specs.Lines.{call}
use Rattle.report_examples.specs.ReportedRuns.{both_delivered, first_failed}
use Rattle.report_lines.proofs.Worlds.{legal_at, illegal_at}
use Rattle.report_examples.proofs.ReportedRuns.{first_is_legal, first_is_illegal}
use Rattle.report_examples.proofs.refused_reports.other_lines_are_refused.Goals as goal

pub returns-clause-false_error : goal.returns-clause-false_error
returns-clause-false_error c h = illegal_at tenfold (locals_after two_calls) first_failed h
    (call 0 0) (1 ∷ 0 ∷ []) refl first_is_legal

pub returns-clause-missed_error : goal.returns-clause-missed_error
returns-clause-missed_error c h = first_is_illegal
    (legal_at silent (locals_after two_calls) both_delivered h (call 0 0) (1 ∷ 0 ∷ []) refl)
