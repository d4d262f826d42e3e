use Rattle.std.proofs.Common.{subst, arith}
use Rattle.queue_refutation.specs.Closed.{IsOnePaired}
use Rattle.queue_refutation.specs.DeadEnds.{listed}
use Rattle.queue_refutation.proofs.Passing.{finds-at-once}
use Rattle.queue_refutation.proofs.dead_ends.DeadEnds.finds_stand_at_once.Goals as goal

pub returns : goal.returns
returns c told reading book is =
    let keys = c.args.self.now.standings.now.keys in
    finds-at-once reading book c.args.self.now.table.now c.args.standing.now c.args.next_entries.now
    (listed keys) is c.requires.next_entries c.requires.few
    (omega arith) (omega arith)
    (subst (IsOnePaired (listed keys)) c.with_finds.ensures (c.has.ensures told))
