use Rattle.broken_rules.specs.Deeds.{reading_of}
use Rattle.refutations.proofs.Containers.{excess_takes}
use Rattle.refutations.proofs.counts.takes_exceed_puts.Goals as goal

pub returns-clause-none : goal.returns-clause-none
returns-clause-none c = λ e.
    excess_takes c.args.kind c.args.book.now c.args.values.now c.args.moment c.requires
    ((c.in_ok-more.ensures (reading_of c.args.kind) c.in_ok-table.ensures).0 e)
