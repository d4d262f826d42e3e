use Rattle.std.proofs.Common.{ℕ, List, ◌++◌, option_map, string_bytes, append_assoc, subst}
use Rattle.sketch.specs.declared.interval.Interval.{Interval}
use Rattle.book_picture.specs.Bars.{IsShownOf}
use Rattle.book_picture.specs.Elements.{IsElementOf, AreElementsOf}
use Rattle.book_picture.specs.Values.{class_of_call}
use Rattle.book_picture.proofs.DrawingLemmas.{drawable_lane, lanes_turn}
use Rattle.book_picture.proofs.draw.put_lanes.Goals as goal

pub put_lane-requires : goal.put_lane-requires
put_lane-requires c =
    drawable_lane c.args.sheet.now.book.now c.args.lanes.now c.loop-lane.lane-index
    c.lane-item.result c.deref.result.now c.loop-lane-test.true c.lane-item.is
    c.deref.ensures.value c.requires

pub loop-lane-preserved : goal.loop-lane-preserved
loop-lane-preserved c =
    let sheet = c.args.sheet.now in
    let class = class_of_call sheet.kind sheet.book.now sheet.values.now sheet.marks.now in
    let shows = IsShownOf sheet.kind sheet.book.now (option_map (λ o. o.now) sheet.order) in
    let is_element : Interval → List ℕ → Type 0 = IsElementOf class shows sheet.rows.now in
    let was = c.loop-lane.invariant in
    let put = c.in_ok-put_lane.ensures in
    let joined = append_assoc (string_bytes c.args.out.now) was.0 put.0 in (
      was.0 ++ put.0,
      lanes_turn is_element c.args.lanes.now c.loop-lane.lane-index c.lane-item.result
          was.0 put.0 c.loop-lane-test.true c.lane-item.is was.1
          (subst (λ (lane : List Interval). AreElementsOf is_element lane put.0)
          c.deref.ensures.value put.1),
      cc (joined, was.2, put.2),
    )
