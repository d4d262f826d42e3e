use Rattle.sketch.proofs.Waiting.{IsFirstUpTo}
use Rattle.sketch.proofs.drawn.Drawn.first_waiting.Given as goal

abbrev pub invariant-loop-caller : goal.invariant-loop-caller
invariant-loop-caller l = IsFirstUpTo l.book l.self.returned l.caller l.first
