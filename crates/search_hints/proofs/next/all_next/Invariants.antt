use Rattle.search_hints.proofs.Least.{MarksNextBelow}
use Rattle.search_hints.proofs.next.all_next.Given as goal

abbrev pub invariant-loop-caller : goal.invariant-loop-caller
invariant-loop-caller l = MarksNextBelow l.book l.cut l.caller l.marks
