use Rattle.broken_rules.proofs.Counting.{increments_are_counted}
use Rattle.broken_rules.proofs.object_laws.counters_count.Goals as goal

pub returns : goal.returns
returns c = increments_are_counted
