use Rattle.std.proofs.Common.{arith}
use Rattle.sketch.proofs.IntervalLemmas.{returns_from}
use Rattle.sketch.proofs.lanes.interval_from.Goals as goal

pub place_from-requires : goal.place_from-requires
place_from-requires c =
    returns_from c.args.book.now c.args.events.now c.requires.valid c.requires.sketch c.args.call
    c.place_from-begin.result c.place_from-begin.ensures.stands (omega arith)
