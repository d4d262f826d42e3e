use Rattle.std.proofs.Common.{◌-◌}
use Rattle.queue_pairs.specs.Spans.{AreHolding}
use Rattle.queue_pairs.proofs.spans.first_holding.Given as goal

abbrev pub invariant-loop-low : goal.invariant-loop-low
invariant-loop-low l = AreHolding l.book l.caller l.call l.low l.high

abbrev pub decreases-loop-low : goal.decreases-loop-low
decreases-loop-low l = l.high - l.low
