use Rattle.std.proofs.Common.{arith}
use Rattle.named_runs.proofs.FreshRuns.{RunEnds-weaker, answered_as, named_report}
use Rattle.named_runs.proofs.OpenedPasses.{opened_passes, passes_back}
use Rattle.named_runs.proofs.named.replay_named.Goals as goal

pub replay_fresh-status-requires : goal.replay_fresh-status-requires
replay_fresh-status-requires g c = record {
  passes = opened_passes _ _ _ _ _ _ c.args.script.now
      (omega (arith, c.callers.ensures.count)) c.in-Ok.ensures.passes.callers
      c.in-Ok.ensures.passes.own c.in-Ok.ensures.fresh c.callers.ensures.plan;
}

pub close_with-requires : goal.close_with-requires
close_with-requires g c =
    let after = c.replay_fresh-status.ensures in (
      c.kind.result,
      c.callers.result,
      c.in-Ok.ensures.opened,
      passes_back _ _ _ _ (omega
          (arith, after.all_passes, c.callers.ensures.count, c.replay_fresh-status.new.passes.ok.0))
          after.passes,
    )

pub returns-clause-ends : goal.returns-clause-ends
returns-clause-ends g c =
    let after = c.replay_fresh-status.ensures in
    let own = passes_back _ _ _ c.callers.result (omega
    (arith, after.all_passes, c.callers.ensures.count, c.replay_fresh-status.new.passes.ok.0))
    after.passes in
    RunEnds-weaker _ _ _ _ _ _ _
    (named_report _ _ _ c.args._behaviour c.args.script.now _ _ _
    (λ phases calls told. answered_as _ _ _ c.kind.result _ c.callers.result phases calls
    c.requires.named c.kind.ensures c.callers.ensures.count
    (c.close_with.ensures _ _ phases calls c.in-Ok.ensures.opened own told)))
    after.ends
