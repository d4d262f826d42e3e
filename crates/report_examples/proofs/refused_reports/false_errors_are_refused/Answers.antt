use Rattle.std.proofs.Common.{[], ◌∷◌, refl, rules}
use Rattle.world_examples.specs.Schedules.{pair, two_calls, tenfold, silent}
use Rattle.world_examples.proofs.Linear.{linearizable}
use Rattle.world_examples.specs.JudgedRuns.{locals_after}
use Rattle.world_examples.proofs.JudgedRuns.{both_together}
use Rattle.report_examples.specs.Lines.{call}
use Rattle.report_lines.specs.Lawful.{IsLawful}
use Rattle.report_examples.specs.ReportedRuns.{five_and_six, both_failed}
use Rattle.report_lines.proofs.Worlds.{worlds_are_lawful, illegal_at}
use Rattle.report_examples.proofs.ReportedRuns.{first_is_legal, failed_lines}
use Rattle.reports.proofs.LawfulErrors.{no_run_leaves_an_error}
use Rattle.report_examples.proofs.refused_reports.false_errors_are_refused.Goals as goal

lawful : IsLawful silent pair five_and_six (5 ∷ 5 ∷ []) both_failed
lawful = worlds_are_lawful silent pair five_and_six (5 ∷ 5 ∷ [])
    (locals_after two_calls) both_failed both_together failed_lines (search rules)

pub returns-clause-linearizable : goal.returns-clause-linearizable
returns-clause-linearizable c = linearizable

pub returns-clause-no_report : goal.returns-clause-no_report
returns-clause-no_report c s operations allotments h = no_run_leaves_an_error tenfold s
    operations allotments both_failed h refl pair two_calls refl refl linearizable

pub returns-clause-of_the_lines : goal.returns-clause-of_the_lines
returns-clause-of_the_lines c t steps run are linear =
    illegal_at tenfold _ both_failed are (call 0 0) (1 ∷ 0 ∷ []) refl first_is_legal

pub returns-clause-of_the_calls : goal.returns-clause-of_the_calls
returns-clause-of_the_calls c h = h pair two_calls refl refl linearizable

pub returns-clause-lawful : goal.returns-clause-lawful
returns-clause-lawful c = lawful

pub returns-clause-of_lawful_calls : goal.returns-clause-of_lawful_calls
returns-clause-of_lawful_calls c =
    no_run_leaves_an_error silent pair five_and_six (5 ∷ 5 ∷ []) both_failed lawful refl
