use Rattle.std.proofs.Common.{arith, below_more}
use Rattle.std.proofs.lemmas.Option.{slice_get_within}
use Rattle.stack_levels.proofs.closure.Closure.levels_are_kept.Goals as goal

pub loop-k-preserved : goal.loop-k-preserved
loop-k-preserved g c =
    below_more _ _ c.loop-k.invariant (c.level_is_kept_at.ensures c.if-not-level_is_kept_at.false)

pub returns : goal.returns
returns g c told l level at =
    c.loop-k.invariant l (omega (
      arith,
      slice_get_within c.args.self.now.table.now.levels.items l level at,
      c.loop-k-test.false,
    )) level at
