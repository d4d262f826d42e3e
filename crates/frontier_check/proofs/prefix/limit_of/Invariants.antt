use Rattle.std.proofs.Common.{◌≡◌, length}
use Rattle.frontier_check.proofs.prefix.limit_of.Given as goal

abbrev pub invariant-loop-caller : goal.invariant-loop-caller
invariant-loop-caller l = length l.limit ≡ length l.book
