use Rattle.sketch.specs.Drawing.{IsPartOf}
use Rattle.sketch.proofs.Drawing.{IsDrawnSketch, left_to_draw}
use Rattle.sketch.proofs.history.sketch.Given as goal

abbrev pub invariant-loop-event : goal.invariant-loop-event
invariant-loop-event l = record {
  part : IsPartOf l.book l.drawn;
  drawn : IsDrawnSketch l.book l.drawn l.events.items;
}

abbrev pub decreases-loop-event : goal.decreases-loop-event
decreases-loop-event l = left_to_draw l.book l.drawn
