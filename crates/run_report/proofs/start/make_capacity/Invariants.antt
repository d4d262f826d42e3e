use Rattle.std.proofs.Common.{◌≡◌, ◌≤◌, vec_len, vec_capacity}
use Rattle.run_report.specs.Places.{AreInOrder}
use Rattle.run_report.specs.Starts.{IsCapacityFor}
use Rattle.run_report.proofs.start.make_capacity.Given as goal

abbrev pub invariant-loop-i : goal.invariant-loop-i
invariant-loop-i l =
    (vec_len l.room ≡ l.i) × (l.callers ≤ vec_capacity l.room)
    × AreInOrder (IsCapacityFor l.script.operations) l.room.items
