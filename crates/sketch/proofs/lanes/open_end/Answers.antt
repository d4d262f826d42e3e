use Rattle.std.proofs.Common.{arith}
use Rattle.sketch.proofs.IntervalLemmas.{next_from}
use Rattle.sketch.proofs.lanes.open_end.Goals as goal

pub place_from-requires : goal.place_from-requires
place_from-requires c =
    next_from c.args.book.now c.args.events.now c.requires.sketch c.args.call c.args.begin
    c.requires.begin (omega arith)
