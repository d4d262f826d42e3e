use Rattle.std.proofs.Common.{arith, below_more}
use Rattle.stack_levels.specs.Tables.{layers_of, IsSaidKept}
use Rattle.stack_levels.proofs.Closing.{each_one}
use Rattle.stack_levels.proofs.closure.Closure.are_said_kept.Goals as goal

pub loop-k-preserved : goal.loop-k-preserved
loop-k-preserved g c =
    below_more _ _ c.loop-k.invariant (c.is_said_kept.ensures c.if-not-is_said_kept.false)

pub returns : goal.returns
returns g c told =
    each_one (IsSaidKept (layers_of c.args.self.now.table.now.levels.items)) c.args.parents.now
    (λ j below. c.loop-k.invariant j (omega (arith, below, c.loop-k-test.false)))
