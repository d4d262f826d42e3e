use Rattle.list_pruning.proofs.takes.is_sooner.Goals as goal

pub returns-in-None : goal.returns-in-None
returns-in-None g c _ takes s at = absurd (c.in-None.ensures.none c.args.value takes)
