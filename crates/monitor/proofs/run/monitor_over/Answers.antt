use Rattle.run_report.proofs.Workers.{returned_outside}
use Rattle.monitor.proofs.run.monitor_over.Goals as goal

pub monitor_asked-requires-clause-begins : goal.monitor_asked-requires-clause-begins
monitor_asked-requires-clause-begins g c κs within =
    record { begins = c.requires.begins.begins; passes_for = c.passes_are_fresh.ensures }

pub returns-clause-returns : goal.returns-clause-returns
returns-clause-returns g c =
    returned_outside _ _ _ _ _ _ _ _ _ _ _ c.monitor_asked.ensures.returns
