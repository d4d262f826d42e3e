use Rattle.queue_pairs.specs.Spans.{IsFirstBelow}
use Rattle.queue_pairs.proofs.spans.first_of.Given as goal

abbrev pub invariant-loop-caller : goal.invariant-loop-caller
invariant-loop-caller l = IsFirstBelow l.book l.call l.caller l.first
