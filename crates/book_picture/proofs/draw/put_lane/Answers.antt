use Rattle.std.proofs.Common.{◌++◌, option_map, string_bytes, append_assoc}
use Rattle.book_picture.specs.Bars.{IsShownOf}
use Rattle.book_picture.specs.Elements.{IsElementOf}
use Rattle.book_picture.specs.Values.{class_of_call}
use Rattle.book_picture.proofs.DrawingLemmas.{drawable_at, elements_turn}
use Rattle.book_picture.proofs.draw.put_lane.Goals as goal

pub element-requires : goal.element-requires
element-requires c =
    drawable_at c.args.sheet.now.book.now c.args.lane.now _ _ c.loop-interval-test.true c.requires

pub loop-interval-preserved : goal.loop-interval-preserved
loop-interval-preserved c =
    let sheet = c.args.sheet.now in
    let class = class_of_call sheet.kind sheet.book.now sheet.values.now sheet.marks.now in
    let shows = IsShownOf sheet.kind sheet.book.now (option_map (λ o. o.now) sheet.order) in
    let was = c.loop-interval.invariant in
    let more = string_bytes c.in_ok-element.element in
    let joined = append_assoc (string_bytes c.args.out.now) was.0 more in (
      was.0 ++ more,
      elements_turn (IsElementOf class shows sheet.rows.now) c.args.lane.now
          c.loop-interval.interval-index _ was.0 more c.loop-interval-test.true was.1
          c.in_ok-element.ensures,
      cc (joined, was.2, c.in_ok-push_str.ensures.bytes, c.deref.ensures),
    )
