use Rattle.std.proofs.Common.{◌≡◌, [], drop}
use Rattle.book_picture.specs.Values.{values_after}
use Rattle.book_picture.proofs.values.values_of.Given as goal

abbrev pub invariant-loop-event : goal.invariant-loop-event
invariant-loop-event l = values_after l.kind l.book l.values.items (drop l.event-index l.events)
    ≡ values_after l.kind l.book [] l.events
