use Rattle.book_picture.proofs.DrawingLemmas.{drawable_lane}
use Rattle.book_picture.proofs.columns.next_edge.Goals as goal

pub lane_edge-requires : goal.lane_edge-requires
lane_edge-requires c =
    drawable_lane c.args.book.now c.args.lanes.now c.loop-lane.lane-index c.lane-item.result
    c.deref.result.now c.loop-lane-test.true c.lane-item.is c.deref.ensures.value c.requires
