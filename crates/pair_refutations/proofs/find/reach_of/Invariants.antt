use Rattle.pair_refutations.specs.Tabled.{AreKnown, AreEarly}
use Rattle.pair_refutations.proofs.find.reach_of.Given as goal

abbrev pub invariant-loop-taker : goal.invariant-loop-taker
invariant-loop-taker l = record {
  known : AreKnown l.reached;
  early : AreEarly l.reached;
}
