use Rattle.std.proofs.Common.{◌∙◌, ap, slice_get, arith}
use Rattle.level_refutations.proofs.levels.Levels.get.Goals.{then-number-eq0-via-then-number-eq0, then-number-eq0-via-else-number-eq0+then-number-len}
use Rattle.level_refutations.proofs.levels.Levels.get.Goals as goal

pub returns-then-number-eq0-clause-bottom : goal.returns-then-number-eq0-clause-bottom
returns-then-number-eq0-clause-bottom c levels are inside = elim c.then-number-eq0.branch [
  | then-number-eq0-via-then-number-eq0 w ↦
      ap (slice_get levels) w.if-number-eq0.true ∙ are.first
  | then-number-eq0-via-else-number-eq0+then-number-len w ↦
      absurd (omega (arith, inside, are.long, w.len.ensures, w.if-number-len.true))
]
