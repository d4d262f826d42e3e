use Rattle.set_order.proofs.Trying.{AreCandidatesBelow}
use Rattle.set_order.proofs.search.SetSearch.candidates.Given as goal

abbrev pub invariant-loop-caller : goal.invariant-loop-caller
invariant-loop-caller g l = AreCandidatesBelow l.self.book.now l.counts l.caller l.candidates.items
