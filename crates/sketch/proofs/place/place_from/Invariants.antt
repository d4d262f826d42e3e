use Rattle.std.proofs.Common.{◌-◌, length}
use Rattle.sketch.specs.Intervals.{StandsFrom}
use Rattle.sketch.proofs.place.place_from.Given as goal

abbrev pub invariant-loop-event : goal.invariant-loop-event
invariant-loop-event l = StandsFrom l.events l.place l.event

abbrev pub decreases-loop-event : goal.decreases-loop-event
decreases-loop-event l = length l.events - l.place
