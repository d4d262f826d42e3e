use Rattle.told_models.proofs.Walks.{walk_low}
use Rattle.told_models.proofs.walk.Walk.pick.Goals as goal

pub without-left-requires-in-loop-other : goal.without-left-requires-in-loop-other
without-left-requires-in-loop-other c =
    walk_low c.args.table.now c.args.book.now c.args.self.now c.in-Some.caller c.requires
    (c.loop-other.invariant c.in-Some.caller c.in-Some.ensures.some)
