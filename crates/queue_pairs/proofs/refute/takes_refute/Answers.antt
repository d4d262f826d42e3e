use Rattle.std.proofs.Common.{arith}
use Rattle.queue_pairs.proofs.Refuting.{takes-refute}
use Rattle.queue_pairs.proofs.refute.takes_refute.Goals as goal

pub returns : goal.returns
returns c told =
    takes-refute c.args.table.now c.args.values.now c.args.moment (omega arith)
    (c.takes_are_ahead.ensures told)
