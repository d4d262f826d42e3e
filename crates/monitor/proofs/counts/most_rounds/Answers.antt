use Rattle.std.proofs.Common.{arith}
use Rattle.run_report.proofs.Starts.{operations_within}
use Rattle.monitor.proofs.Monitoring.{calls_fit}
use Rattle.monitor.proofs.counts.most_rounds.Goals as goal

pub overflow_add-calls : goal.overflow_add-calls
overflow_add-calls c =
    omega (
      arith,
      calls_fit c.args.script.now c.loop-i.i c.loop-i.calls c.callers-i-end.ensures.plan
          c.loop-i.invariant,
      c.calls-calls.ensures,
      operations_within 256 c.args.script.now.operations c.loop-i.i
          c.callers-i-end.ensures.plan.calls,
    )

pub overflow_add-result : goal.overflow_add-result
overflow_add-result c = omega (
  arith,
  calls_fit c.args.script.now c.loop-i.i c.loop-i.calls c.callers-i-end.ensures.plan
      c.loop-i.invariant,
)
