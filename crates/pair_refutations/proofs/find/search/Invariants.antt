use Rattle.pair_refutations.specs.Tabled.{AreKnown, AreEarly}
use Rattle.pair_refutations.proofs.find.search.Given as goal

abbrev pub invariant-loop-number : goal.invariant-loop-number
invariant-loop-number l = record {
  known : AreKnown l.reached;
  early : AreEarly l.reached;
}
