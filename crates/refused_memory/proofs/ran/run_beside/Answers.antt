use Rattle.std.proofs.Common.{arith}
use Rattle.run_report.proofs.Starts.{may_begin}
use Rattle.run_report.proofs.Workers.{unused_own}
use Rattle.refused_memory.proofs.ran.run_beside.Goals as goal

pub returns-in_err-rows-clause-passes : goal.returns-in_err-rows-clause-passes
returns-in_err-rows-clause-passes g c = unused_own _ _ _ _ _ _ c.requires.passes.each

pub run_over-report-requires-clause-begins : goal.run_over-report-requires-clause-begins
run_over-report-requires-clause-begins g c κs within =
    let opened = c.in_ok-rows.ensures in
    record {
      begins = may_begin _ c.args.script.now 0 _ 256 _ _ (omega (arith, c.callers.ensures.count))
          c.callers.ensures.plan.calls opened.rows.0 opened.rows.1 opened.bench opened.fresh;
      passes_for = c.requires.passes;
    }
