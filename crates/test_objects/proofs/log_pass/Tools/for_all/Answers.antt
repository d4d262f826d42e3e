use Rattle.std.proofs.Common.{arith}
use Rattle.test_objects.proofs.Equipping.{tools_more}
use Rattle.test_objects.proofs.log_pass.Tools.for_all.Goals as goal

pub loop-caller-preserved : goal.loop-caller-preserved
loop-caller-preserved c = (
  omega (arith, c.loop-caller.invariant.0, c.in_ok-push.ensures.len),
  tools_more c.args.n c.args.cap _ _ _ c.loop-caller.invariant.1 c.in_ok-push.ensures.items
      c.in_ok-pairs.ensures.items c.in_ok-pairs.ensures.capacity c.in_ok-scratch.ensures
      (omega (arith, c.in_ok-scratch.scratch.waiting.ok.0)),
)
