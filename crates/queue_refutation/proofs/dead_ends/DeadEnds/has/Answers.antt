use Rattle.std.proofs.Common.{subst}
use Rattle.queue_pairs.specs.declared.standing.PairState.{PairState}
use Rattle.queue_pairs.specs.NextEntries.{paired}
use Rattle.queue_refutation.specs.Closed.{IsOnePaired}
use Rattle.queue_refutation.specs.DeadEnds.{listed}
use Rattle.queue_refutation.proofs.Ending.{listed-there}
use Rattle.queue_refutation.proofs.dead_ends.DeadEnds.has.Goals as goal

pub returns-in-Some : goal.returns-in-Some
returns-in-Some c told =
    let keys = c.args.self.now.standings.now.keys in
    subst (λ (s : PairState). IsOnePaired (listed keys) (paired s)) (c.is_same.ensures told)
    (listed-there keys c.in-Some.field-0-0 c.in-Some.kept.now c.in-Some.ensures.stored)
