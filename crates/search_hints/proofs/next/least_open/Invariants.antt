use Rattle.search_hints.proofs.Least.{LeastSoFar}
use Rattle.search_hints.proofs.next.least_open.Given as goal

abbrev pub invariant-loop-caller : goal.invariant-loop-caller
invariant-loop-caller l = LeastSoFar l.book l.counts l.caller l.least
