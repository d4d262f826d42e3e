use Rattle.std.proofs.Common.{IsSome, Some, refl, ap}
use Rattle.std.proofs.lemmas.Option.{IfSome_then}
use Rattle.call_handles.specs.Monitors.{MayJudge}
use Rattle.call_handles.proofs.Sorts.{monitors_iff}
use Rattle.call_handles.proofs.calls.judged_by.Goals as goal

pub returns-in-Monitor-clause-when : goal.returns-in-Monitor-clause-when
returns-in-Monitor-clause-when c =
    monitors_iff (IsSome c.judge-monitor.result.1) MayJudge
    (Some c.args.handle) c.in-Monitor.monitor (ap Some c.in-Monitor.is) c.judge-monitor.ensures.when

pub returns-in-Monitor-clause-judged : goal.returns-in-Monitor-clause-judged
returns-in-Monitor-clause-judged c =
    IfSome_then c.judge-monitor.result.1 c.judge-monitor.ensures.judged
    (λ found judged. (
      c.in-Monitor.monitor,
      c.judge-monitor.result.0,
      ap Some c.in-Monitor.is,
      refl,
      c.judge-monitor.ensures.same,
      judged,
    ))
