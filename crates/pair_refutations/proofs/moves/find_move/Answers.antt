use Rattle.std.proofs.Common.{arith}
use Rattle.queue_pairs.specs.NextEntries.{paired}
use Rattle.pair_refutations.proofs.Moving.{find-low, find-made}
use Rattle.pair_refutations.proofs.moves.find_move.Goals as goal

pub returns-then-next-ge-NEVER-clause-none : goal.returns-then-next-ge-NEVER-clause-none
returns-then-next-ge-NEVER-clause-none c reading book table is h g m =
    let low = find-low reading book table (paired c.args.standing.now)
    c.args.next.now.find_first is h.find_first m.find m.begin
    m.finds m.begins m.later in
    omega (arith, low.1, c.if-next-ge-NEVER.true)

pub returns-clause-find : goal.returns-clause-find
returns-clause-find c reading book table is h =
    find-made reading book table (paired c.args.standing.now) c.args.next.now.find_first is
    h.find_first c.max.result
    (omega (arith, c.if-next-ge-NEVER.false)) c.max.ensures
