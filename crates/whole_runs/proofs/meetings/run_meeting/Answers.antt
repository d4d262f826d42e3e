use Rattle.std.proofs.Common.{arith}
use Rattle.named_runs.proofs.OpenedPasses.{opened_passes}
use Rattle.whole_runs.proofs.meetings.run_meeting.Goals as goal

pub run_fresh-status-requires-clause-passes : goal.run_fresh-status-requires-clause-passes
run_fresh-status-requires-clause-passes g c κs within =
    opened_passes _ _ _ _ _ _ c.args.script.now (omega (arith, c.callers.ensures.count))
    c.in_ok-object.ensures.callers c.in_ok-object.ensures.own
    (λ k d low. let new = c.in_ok-object.ensures.fresh k d low in (new.made, new.cap))
    c.callers.ensures.plan
