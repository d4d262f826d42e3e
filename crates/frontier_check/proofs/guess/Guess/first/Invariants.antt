use Rattle.std.proofs.Common.{◌<◌, length}
use Rattle.frontier_check.proofs.guess.Guess.first.Given as goal

abbrev pub invariant-loop-caller : goal.invariant-loop-caller
invariant-loop-caller l = l.least < length l.self.counts
