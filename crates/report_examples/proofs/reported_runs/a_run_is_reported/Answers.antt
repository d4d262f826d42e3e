use Rattle.std.proofs.Common.{◌≤◌, [], ◌∷◌, refl, arith, inl, inr, rules}
use Rattle.world_examples.specs.Schedules.{pair, two_calls, tenfold, silent}
use Rattle.world_examples.specs.JudgedRuns.{locals_after}
use Rattle.world_examples.proofs.JudgedRuns.{both_together}
use Rattle.report_examples.specs.Lines.{call}
use Rattle.report_examples.specs.ReportedRuns.{five_and_six, both_delivered, both_failed}
use Rattle.report_lines.proofs.Worlds.{worlds_are_lawful}
use Rattle.report_examples.proofs.ReportedRuns.{first_is_legal, delivered_lines, second_is_illegal, failed_lines}
use Rattle.report_examples.proofs.reported_runs.a_run_is_reported.Goals as goal

pub returns-clause-lines : goal.returns-clause-lines
returns-clause-lines c = delivered_lines

pub returns-clause-lawful : goal.returns-clause-lawful
returns-clause-lawful c =
    worlds_are_lawful tenfold pair five_and_six (5 ∷ 5 ∷ [])
    (locals_after two_calls) both_delivered both_together delivered_lines (search rules)

pub returns-clause-errors : goal.returns-clause-errors
returns-clause-errors c = failed_lines

pub returns-clause-lawful_errors : goal.returns-clause-lawful_errors
returns-clause-lawful_errors c =
    worlds_are_lawful silent pair five_and_six (5 ∷ 5 ∷ [])
    (locals_after two_calls) both_failed both_together failed_lines (search rules)

pub returns-clause-false_error : goal.returns-clause-false_error
returns-clause-false_error c h = h.no_order (call 0 0) (1 ∷ 0 ∷ []) refl first_is_legal

pub returns-clause-one_false_error : goal.returns-clause-one_false_error
returns-clause-one_false_error c h = h.no_order (call 0 0) (1 ∷ 0 ∷ []) refl first_is_legal

pub returns-clause-missed_errors : goal.returns-clause-missed_errors
returns-clause-missed_errors c h = second_is_illegal h.one_order

pub returns-clause-one_missed_error : goal.returns-clause-one_missed_error
returns-clause-one_missed_error c h = second_is_illegal h.one_order

pub returns-clause-other_cuts : goal.returns-clause-other_cuts
returns-clause-other_cuts c h =
    elim (h.seen.comparable (call 0 0) (call 1 0) (1 ∷ 0 ∷ []) (0 ∷ 1 ∷ []) refl refl) [
      | inl within ↦ let low : 1 ≤ 0 = within 0 in absurd (omega (arith, low))
      | inr within ↦ let low : 1 ≤ 0 = within 1 in absurd (omega (arith, low))
    ]
