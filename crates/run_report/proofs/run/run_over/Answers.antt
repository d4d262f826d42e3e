use Rattle.run_report.proofs.Workers.{returned_outside}
use Rattle.run_report.proofs.run.run_over.Goals as goal

pub run_asked-requires-clause-begins : goal.run_asked-requires-clause-begins
run_asked-requires-clause-begins g c κs within =
    record { begins = c.requires.begins.begins; passes_for = c.passes_are_fresh.ensures }

pub returns-clause-returns : goal.returns-clause-returns
returns-clause-returns g c = returned_outside _ _ _ _ _ _ _ _ _ _ _ c.run_asked.ensures.returns
