use Rattle.std.proofs.Common.{arith}
use Rattle.level_refutations.proofs.levels.Levels.len.Goals as goal

pub returns : goal.returns
returns c entries levels are = omega (arith, are.long, c.len.ensures)
