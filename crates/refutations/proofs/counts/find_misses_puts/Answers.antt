use Rattle.broken_rules.specs.Deeds.{reading_of}
use Rattle.refutations.proofs.Containers.{missed_puts, is_missed}
use Rattle.refutations.proofs.counts.find_misses_puts.Goals as goal

pub returns-then-finds_nothing-clause-missed : goal.returns-then-finds_nothing-clause-missed
returns-then-finds_nothing-clause-missed c =
    let reading = reading_of c.args.kind in
    let finds = c.finds_nothing.ensures.finds reading c.in_ok-table.ensures in
    is_missed reading c.args.book.now c.args.values.now c.args.find c.in_ok-more.more
    (finds.0 c.if-finds_nothing.true) (c.in_ok-more.ensures reading c.in_ok-table.ensures)

pub returns-then-finds_nothing-clause-none : goal.returns-then-finds_nothing-clause-none
returns-then-finds_nothing-clause-none c = λ e.
    let reading = reading_of c.args.kind in
    let finds = c.finds_nothing.ensures.finds reading c.in_ok-table.ensures in
    let missed = is_missed reading c.args.book.now c.args.values.now c.args.find c.in_ok-more.more
    (finds.0 c.if-finds_nothing.true) (c.in_ok-more.ensures reading c.in_ok-table.ensures) in
    missed_puts c.args.kind c.args.book.now c.args.values.now c.args.find c.requires.kind
    (missed.0 e)
