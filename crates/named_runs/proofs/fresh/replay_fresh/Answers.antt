use Rattle.std.proofs.Common.{◌∙◌, arith}
use Rattle.run_report.proofs.Starts.{may_begin}
use Rattle.run_report.proofs.Reported.{outside_shapes}
use Rattle.run_report.proofs.Workers.{unused_own}
use Rattle.named_runs.proofs.FreshRuns.{RunEnds-weaker, fresh_report}
use Rattle.named_runs.proofs.fresh.replay_fresh.Goals as goal

pub returns-in_default-clause-passes : goal.returns-in_default-clause-passes
returns-in_default-clause-passes g c = unused_own _ _ _ _ _ _ c.requires.passes.each

pub replay_and_write-status-requires : goal.replay_and_write-status-requires
replay_and_write-status-requires g c =
    let opened = c.in-Ok.ensures in
    record {
      begins = record {
        begins = may_begin _ c.args.script.now 0 _ 256 _ _
            (omega (arith, c.callers.ensures.count)) c.callers.ensures.plan.calls opened.rows.0
            opened.rows.1 opened.bench opened.fresh;
        passes_for = c.requires.passes;
      };
    }

pub returns-clause-ends : goal.returns-clause-ends
returns-clause-ends g c =
    RunEnds-weaker _ _ _ _ _ _ _
    (fresh_report _ _ _ _ _ _ c.args.script.now _ _ _ (outside_shapes _ _ _
    (c.in-Ok.ensures.rows.0 ∙ c.callers.ensures.count) c.in-Ok.ensures.rows.1)
    c.close_shown.ensures)
    c.replay_and_write-status.ensures.ends
