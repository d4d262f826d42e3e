use Rattle.std.proofs.Common.{arith}
use Rattle.named_runs.proofs.OpenedPasses.{opened_passes, passes_back}
use Rattle.refused_memory.proofs.ran.run_box.Goals as goal

pub run_beside-came-requires-clause-passes : goal.run_beside-came-requires-clause-passes
run_beside-came-requires-clause-passes g c κs within =
    opened_passes _ _ _ _ _ _ c.args.script.now
    (omega (arith, c.in_ok-object.ensures.log.0, c.callers.ensures.count))
    c.in_ok-object.ensures.passes.callers c.in_ok-object.ensures.passes.each
    (λ k d low. let new = c.in_ok-object.ensures.fresh k d low in (new.made, new.cap))
    c.callers.ensures.plan

pub close-requires : goal.close-requires
close-requires g c =
    let after = c.run_beside-came.ensures in
    record {
      passes = record {
        callers = (passes_back _ _ _ _
            (omega (arith, after.all_passes, c.callers.ensures.count, c.in_ok-object.ensures.log.0))
            after.passes).callers;
        each = (passes_back _ _ _ c.callers.result
            (omega (arith, after.all_passes, c.callers.ensures.count)) after.passes).own;
      };
    }
