use Rattle.selfcheck.proofs.TaskLemmas.{EndsWriting-soak}
use Rattle.selfcheck.proofs.soak.soak.Goals as goal

pub returns-in-Ok-clause-ends : goal.returns-in-Ok-clause-ends
returns-in-Ok-clause-ends g c =
    EndsWriting-soak c.args.number _ _ _ _ _ _ c.in-Ok.ensures c.run_behaviour.ensures.ends
