use Rattle.book_picture.proofs.DrawingLemmas.{drawable_at}
use Rattle.book_picture.proofs.columns.lane_edge.Goals as goal

pub bar_end-requires : goal.bar_end-requires
bar_end-requires c =
    drawable_at c.args.book.now c.args.lane.now _ _ c.loop-interval-test.true c.requires
