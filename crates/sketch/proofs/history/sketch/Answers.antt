use Rattle.std.proofs.Common.{◌<◌, sym, subst}
use Rattle.sketch.specs.declared.drawn.Drawn.{Drawn}
use Rattle.sketch.proofs.Drawing.{IsDrawnSketch, left_to_draw, part_none, sketch_none, sketch_more, fewer_left}
use Rattle.sketch.proofs.history.sketch.Goals as goal

pub loop-event-init : goal.loop-event-init
loop-event-init c =
    let book = c.args.book.now in
    let drawn = c.nothing-drawn.result in
    let n = c.callers.result in
    record {
      part = part_none book drawn n c.callers.ensures.count c.nothing-drawn.ensures.invoked
          c.nothing-drawn.ensures.returned;
      drawn = subst (IsDrawnSketch book drawn) (sym c.new-events.ensures.items)
          (sketch_none book drawn n c.callers.ensures.count c.nothing-drawn.ensures.invoked
          c.nothing-drawn.ensures.returned);
    }

pub loop-event-smaller : goal.loop-event-smaller
loop-event-smaller c =
    let book = c.args.book.now in
    let drawn = c.loop-event.drawn in
    subst (λ (d : Drawn). left_to_draw book d < left_to_draw book drawn) (sym c.draw.ensures.drawn)
    (fewer_left book drawn c.callers.ensures.valid c.in-Some.event c.loop-event.invariant.part
    c.in-Some.ensures.next)

pub loop-event-preserved : goal.loop-event-preserved
loop-event-preserved c =
    let book = c.args.book.now in
    let drawn = c.loop-event.drawn in
    record {
      part = c.draw.ensures.part;
      drawn = subst (λ (d : Drawn). IsDrawnSketch book d c.push.new.self.items)
          (sym c.draw.ensures.drawn) (subst (IsDrawnSketch book _) (sym c.in_ok-push.ensures.items)
          (sketch_more book drawn c.loop-event.events.items c.in-Some.event
          c.loop-event.invariant.part c.in-Some.ensures.next c.loop-event.invariant.drawn));
    }
