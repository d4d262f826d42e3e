use Rattle.std.proofs.Common.{take}
use Rattle.level_refutations.specs.Stored.{AreKnown}
use Rattle.level_refutations.proofs.nodes.known_of.Given as goal

abbrev pub invariant-loop-k : goal.invariant-loop-k
invariant-loop-k l = AreKnown l.cuts (take l.k l.nodes) l.known.keys
