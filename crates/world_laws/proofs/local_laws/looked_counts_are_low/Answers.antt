use Rattle.world_laws.proofs.Locals.{looked_counts_are_low, looked_counts_are_low_in_runs}
use Rattle.world_laws.proofs.local_laws.looked_counts_are_low.Goals as goal

pub returns-clause-locals : goal.returns-clause-locals
returns-clause-locals c = looked_counts_are_low

pub returns-clause-runs : goal.returns-clause-runs
returns-clause-runs c = looked_counts_are_low_in_runs
