use Rattle.list_pruning.proofs.again.puts_past.Goals as goal

pub returns-in-None : goal.returns-in-None
returns-in-None g c _ puts = absurd (c.in-None.ensures.none c.args.value puts)
