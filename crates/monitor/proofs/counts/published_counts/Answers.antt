use Rattle.std.proofs.Common.{arith}
use Rattle.run_report.proofs.Starts.{operations_within}
use Rattle.monitor.proofs.Monitoring.{counts_are}
use Rattle.monitor.proofs.counts.published_counts.Goals as goal

pub overflow_add-allotment_of : goal.overflow_add-allotment_of
overflow_add-allotment_of c =
    omega (
      arith,
      c.allotment_of.ensures.within,
      operations_within 256 c.args.script.now.operations c.loop-i.i
          c.callers-callers.ensures.plan.calls,
    )

pub returns : goal.returns
returns c =
    let count = c.callers-callers.ensures.count in
    counts_are c.args.script.now c.loop-i.counts c.loop-i.invariant.wide
    (λ i low. c.loop-i.invariant.done i (omega (arith, low, c.loop-i-test.false, count)))
    (λ i high. c.loop-i.invariant.rest i (omega (arith, high, c.loop-i.auto.i-end, count)))
