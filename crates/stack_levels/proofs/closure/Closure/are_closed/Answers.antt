use Rattle.std.proofs.Common.{arith, below_more}
use Rattle.std.proofs.lemmas.Option.{slice_get_within}
use Rattle.stack_levels.proofs.closure.Closure.are_closed.Goals as goal

pub loop-place-preserved : goal.loop-place-preserved
loop-place-preserved g c =
    below_more _ _ c.loop-place.invariant (c.is_closed_at.ensures c.if-not-is_closed_at.false)

pub returns : goal.returns
returns g c told k key at counts there =
    c.loop-place.invariant k (omega (
      arith,
      slice_get_within c.args.self.now.table.now.nodes.keys k key at,
      c.len-place-end.ensures.len,
      c.loop-place-test.false,
    )) key at counts there
