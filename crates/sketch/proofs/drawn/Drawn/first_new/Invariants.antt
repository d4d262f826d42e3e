use Rattle.std.proofs.Common.{ℕ, ◌<◌, ◌≤◌, get_or}
use Rattle.sketch.proofs.drawn.Drawn.first_new.Given as goal

abbrev pub invariant-loop-caller : goal.invariant-loop-caller
invariant-loop-caller l = (i : ℕ) → i < l.caller → get_or l.seen i 0 ≤ get_or l.self.invoked i 0
