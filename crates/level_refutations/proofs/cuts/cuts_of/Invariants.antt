use Rattle.std.proofs.Common.{take}
use Rattle.level_refutations.specs.Closed.{AreMade, cuts_of}
use Rattle.level_refutations.specs.Stored.{AreCuts}
use Rattle.level_refutations.proofs.cuts.cuts_of.Given as goal

abbrev pub invariant-loop-k : goal.invariant-loop-k
invariant-loop-k l = record {
  cuts : AreCuts l.book l.cuts.items (cuts_of l.book (take l.k l.entries));
  made : AreMade l.book l.entries l.k;
}
