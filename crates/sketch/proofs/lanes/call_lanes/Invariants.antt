use Rattle.std.proofs.Common.{◌≡◌, ℕ, ◌<◌, [], length, get_or}
use Rattle.sketch.specs.Intervals.{IsLaneOf, rows_of}
use Rattle.sketch.proofs.lanes.call_lanes.Given as goal

abbrev pub invariant-loop-caller : goal.invariant-loop-caller
invariant-loop-caller l = record {
  count : length (rows_of l.lanes.items) ≡ l.caller;
  own : (i : ℕ) → i < l.caller → IsLaneOf l.book l.events i (get_or (rows_of l.lanes.items) i []);
}
