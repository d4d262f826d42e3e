use Rattle.kind_search.specs.Readings.{queue_reading}
use Rattle.pair_refutations.specs.Closed.{AreMade}
use Rattle.pair_refutations.specs.Tabled.{standings_of, AreKnown, AreEarly}
use Rattle.pair_refutations.proofs.check.check_closed.Given as goal

abbrev pub invariant-loop-k : goal.invariant-loop-k
invariant-loop-k l = record {
  known : AreKnown l.standings;
  early : AreEarly l.standings;
  made : AreMade queue_reading l.book l.entries l.k (standings_of l.standings);
}
