use Rattle.std.proofs.Common.{arith}
use Rattle.named_runs.proofs.FreshRuns.{answered_as}
use Rattle.named_runs.proofs.OpenedPasses.{opened_passes, passes_back}
use Rattle.named_runs.proofs.MonitoredRuns.{monitored-weaker}
use Rattle.named_runs.proofs.named.monitor_named.Goals as goal

pub monitor_fresh-status-requires-clause-passes : goal.monitor_fresh-status-requires-clause-passes
monitor_fresh-status-requires-clause-passes g c κs within =
    opened_passes _ _ _ _ _ _ c.args.script.now
    (omega (arith, c.callers.ensures.count)) c.in-Ok.ensures.passes.callers
    c.in-Ok.ensures.passes.own c.in-Ok.ensures.fresh c.callers.ensures.plan

pub close_with-requires : goal.close_with-requires
close_with-requires g c =
    let after = c.monitor_fresh-status in (
      c.kind.result,
      c.callers.result,
      c.in-Ok.ensures.opened,
      passes_back _ _ _ _ (omega
          (arith, after.ensures.all_passes, c.callers.ensures.count, after.new.passes.ok.0))
          after.ensures.passes,
    )

pub returns-clause-ends : goal.returns-clause-ends
returns-clause-ends g c =
    let after = c.monitor_fresh-status in
    let own = passes_back _ _ _ c.callers.result
    (omega (arith, after.ensures.all_passes, c.callers.ensures.count, after.new.passes.ok.0))
    after.ensures.passes in
    monitored-weaker _ _ _ _ _ _
    (λ locals is. record {
      named = record {
        monitored = is.monitored;
        object = answered_as _ _ _ c.kind.result _ c.callers.result _ _ c.requires.named
            c.kind.ensures c.callers.ensures.count
            (c.close_with.ensures _ _ _ _ c.in-Ok.ensures.opened own is.told_in);
      };
      seen = is.seen;
    })
    after.ensures.ends
