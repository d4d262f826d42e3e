use Rattle.std.proofs.Common.{[], ◌∷◌, rules}
use Rattle.world_examples.specs.Schedules.{pair, two_calls, silent}
use Rattle.world_examples.specs.JudgedRuns.{locals_after}
use Rattle.world_examples.proofs.JudgedRuns.{both_together}
use Rattle.report_examples.specs.ReportedRuns.{both_failed}
use Rattle.report_lines.proofs.Worlds.{worlds_are_lawful}
use Rattle.report_examples.proofs.ReportedRuns.{failed_lines}
use Rattle.report_examples.proofs.reported_runs.an_error_ends_the_lines.Goals as goal

pub returns-clause-lawful : goal.returns-clause-lawful
returns-clause-lawful c =
    worlds_are_lawful silent pair ((5 ∷ 7 ∷ []) ∷ (6 ∷ 8 ∷ []) ∷ []) (10 ∷ 10 ∷ [])
    (locals_after two_calls) both_failed both_together failed_lines (search rules)
