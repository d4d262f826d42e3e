use Rattle.std.proofs.Common.{take}
use Rattle.level_refutations.specs.Closed.{levels_of}
use Rattle.level_refutations.specs.Stored.{AreLevels}
use Rattle.level_refutations.proofs.levels.Levels.of.Given as goal

abbrev pub invariant-loop-k : goal.invariant-loop-k
invariant-loop-k l = AreLevels l.entries l.levels (levels_of (take l.k l.entries))
