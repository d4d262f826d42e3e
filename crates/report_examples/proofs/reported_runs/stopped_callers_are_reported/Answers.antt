use Rattle.std.proofs.Common.{[], ◌∷◌, take, rules}
use Rattle.world_examples.specs.Schedules.{pair, two_calls, silent}
use Rattle.world_examples.specs.JudgedRuns.{locals_after}
use Rattle.report_examples.specs.ReportedRuns.{five_and_six, stopped, nothing}
use Rattle.report_lines.proofs.Worlds.{worlds_are_lawful}
use Rattle.report_examples.proofs.ReportedRuns.{stopped_together, stopped_lines, none_together, no_lines}
use Rattle.report_examples.proofs.reported_runs.stopped_callers_are_reported.Goals as goal

pub returns-clause-run : goal.returns-clause-run
returns-clause-run c = stopped_together

pub returns-clause-lawful : goal.returns-clause-lawful
returns-clause-lawful c =
    worlds_are_lawful silent pair five_and_six (3 ∷ 2 ∷ [])
    (locals_after (take 24 two_calls)) stopped stopped_together stopped_lines (search rules)

pub returns-clause-without_calls : goal.returns-clause-without_calls
returns-clause-without_calls c =
    worlds_are_lawful silent pair five_and_six (0 ∷ 0 ∷ [])
    (locals_after []) nothing none_together no_lines (search rules)
