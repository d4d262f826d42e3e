use Rattle.std.proofs.Common.{◌≡◌, drop, length}
use Rattle.set_order.specs.Search.{raised_by}
use Rattle.set_order.proofs.walk.raised.Given as goal

abbrev pub invariant-loop-place : goal.invariant-loop-place
invariant-loop-place l = record {
  long : length l.raised.items ≡ length l.counts;
  left : raised_by l.raised.items (drop l.place-index l.set) ≡ raised_by l.counts l.set;
}
