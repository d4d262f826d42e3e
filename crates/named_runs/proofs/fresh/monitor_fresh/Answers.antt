use Rattle.std.proofs.Common.{arith}
use Rattle.run_report.proofs.Starts.{may_begin}
use Rattle.run_report.proofs.Workers.{unused_own}
use Rattle.run_report.proofs.Reported.{outside_shapes}
use Rattle.named_runs.proofs.MonitoredRuns.{told_ends}
use Rattle.named_runs.proofs.fresh.monitor_fresh.Goals as goal

pub returns-in_default-clause-passes : goal.returns-in_default-clause-passes
returns-in_default-clause-passes g c = unused_own _ _ _ _ _ _ c.requires.passes.each

pub monitor_and_write-status-requires-clause-begins :
    goal.monitor_and_write-status-requires-clause-begins
monitor_and_write-status-requires-clause-begins g c κs within =
    let opened = c.in-Ok.ensures in
    record {
      begins = may_begin _ c.args.script.now 2 _ 256 _ _ (omega (arith, c.callers.ensures.count))
          c.callers.ensures.plan.calls opened.rows.0 opened.rows.1 opened.bench opened.fresh;
      passes_for = c.requires.passes;
    }

pub returns-clause-ends : goal.returns-clause-ends
returns-clause-ends g c =
    let done = c.monitor_and_write-status.ensures in
    told_ends _ _ _ _ _ _ _ _ c.args.script.now (outside_shapes _ _ _
    (omega (arith, c.in-Ok.ensures.rows.0, c.callers.ensures.count)) c.in-Ok.ensures.rows.1)
    done.returns.run.bench.0 done.returns.run.bench.1 _ _ c.close_shown.ensures _ _ _ done.watched
    done.ends
