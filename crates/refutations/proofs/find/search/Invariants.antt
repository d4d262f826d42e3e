use Rattle.refutations.specs.Stored.{AreFit}
use Rattle.refutations.proofs.find.search.Given as goal

abbrev pub invariant-loop-number : goal.invariant-loop-number
invariant-loop-number g l = AreFit (g.S.SeqObject.spec l.object) l.book l.state.room l.items
