use Rattle.queue_pairs.proofs.Counting.{less-counts}
use Rattle.queue_pairs.proofs.counts.puts_are_ahead.Goals as goal

pub returns : goal.returns
returns c told = less-counts _ _ _ _ (c.is_less.ensures told) c.count.ensures c.count-2.ensures
