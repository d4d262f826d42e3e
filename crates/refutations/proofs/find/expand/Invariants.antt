use Rattle.std.proofs.Common.{◌≡◌}
use Rattle.refutations.specs.Stored.{AreFit}
use Rattle.refutations.proofs.find.expand.Given as goal

abbrev pub invariant-loop-caller : goal.invariant-loop-caller
invariant-loop-caller g l = record {
  room : l.state.room ≡ l.fn.state.room;
  fit : AreFit (g.S.SeqObject.spec l.object) l.book l.state.room l.items;
}
