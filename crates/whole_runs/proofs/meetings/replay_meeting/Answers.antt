use Rattle.std.proofs.Common.{arith}
use Rattle.named_runs.proofs.OpenedPasses.{opened_passes}
use Rattle.whole_runs.proofs.meetings.replay_meeting.Goals as goal

pub replay_fresh-status-requires : goal.replay_fresh-status-requires
replay_fresh-status-requires c = record {
  passes = opened_passes _ _ _ _ _ _ c.args.script.now (omega (arith, c.callers.ensures.count))
      c.in_ok-object.ensures.callers c.in_ok-object.ensures.own
      (λ k d low. let new = c.in_ok-object.ensures.fresh k d low in (new.made, new.cap))
      c.callers.ensures.plan;
}
