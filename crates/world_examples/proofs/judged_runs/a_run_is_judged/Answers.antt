use Rattle.world_examples.proofs.Linear.{linearizable, not_linearizable}
use Rattle.world_examples.proofs.JudgedRuns.{both_together, delivered, first_published, first_sees, second_sees, silent_error}
use Rattle.world_examples.proofs.judged_runs.a_run_is_judged.Goals as goal

pub returns-clause-together : goal.returns-clause-together
returns-clause-together c = both_together

pub returns-clause-published : goal.returns-clause-published
returns-clause-published c = first_published

pub returns-clause-first_sees : goal.returns-clause-first_sees
returns-clause-first_sees c = first_sees

pub returns-clause-second_sees : goal.returns-clause-second_sees
returns-clause-second_sees c = second_sees

pub returns-clause-lawful : goal.returns-clause-lawful
returns-clause-lawful c = linearizable

pub returns-clause-delivered : goal.returns-clause-delivered
returns-clause-delivered c = delivered

pub returns-clause-unlawful : goal.returns-clause-unlawful
returns-clause-unlawful c = not_linearizable

pub returns-clause-error : goal.returns-clause-error
returns-clause-error c = silent_error
