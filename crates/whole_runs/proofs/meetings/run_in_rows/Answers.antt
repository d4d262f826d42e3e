use Rattle.std.proofs.Common.{arith}
use Rattle.run_report.proofs.Starts.{may_begin}
use Rattle.whole_runs.proofs.meetings.run_in_rows.Goals as goal

pub run_and_write-status-requires-clause-begins : goal.run_and_write-status-requires-clause-begins
run_and_write-status-requires-clause-begins g c κs within =
    let opened = c.in_ok-rows.ensures in
    record {
      begins = may_begin _ c.args.script.now 0 _ 256 _ _ (omega (arith, c.callers.ensures.count))
          c.callers.ensures.plan.calls opened.rows.0 opened.rows.1 opened.bench opened.fresh;
      passes_for = c.requires.passes;
    }
