use Rattle.pair_refutations.specs.Tabled.{AreKnown, AreEarly}
use Rattle.pair_refutations.proofs.find.expand.Given as goal

abbrev pub invariant-loop-putter : goal.invariant-loop-putter
invariant-loop-putter l = record {
  known : AreKnown l.reached;
  early : AreEarly l.reached;
}
