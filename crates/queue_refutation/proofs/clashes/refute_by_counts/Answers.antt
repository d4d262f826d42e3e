use Rattle.queue_refutation.proofs.Clashing.{unpaired}
use Rattle.queue_refutation.proofs.clashes.refute_by_counts.Goals as goal

pub returns-in-Some : goal.returns-in-Some
returns-in-Some c told = unpaired c.args.table.now c.args.book.now
    (λ reading is. c.has_one_open.ensures.one c.if-not-has_one_open.false) (c.refute.ensures told)
