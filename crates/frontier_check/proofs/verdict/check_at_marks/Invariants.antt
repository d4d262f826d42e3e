use Rattle.frontier_check.specs.Standing.{AreMarks}
use Rattle.frontier_check.proofs.verdict.check_at_marks.Given as goal

abbrev pub invariant-loop : goal.invariant-loop
invariant-loop g l = AreMarks (g.S.SeqObject.spec l.object) l.book l.order.items 0 l.marks.items
