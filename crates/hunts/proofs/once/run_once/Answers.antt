use Rattle.std.proofs.Common.{◌∙◌, arith}
use Rattle.reports.specs.Findings.{Findings}
use Rattle.row_table.specs.Callers.{locals_on}
use Rattle.run_report.proofs.Starts.{may_begin}
use Rattle.run_report.proofs.Reported.{outside_shapes}
use Rattle.run_report.proofs.Workers.{if_ok_as}
use Rattle.hunts.proofs.Made.{told_report}
use Rattle.hunts.proofs.once.run_once.Goals as goal

pub run_asked-report-requires-clause-begins : goal.run_asked-report-requires-clause-begins
run_asked-report-requires-clause-begins g c κs within =
    let opened = c.in_ok-rows.ensures in
    record {
      begins = may_begin _ c.args.script.now 0 _ 256 _ _ (omega (arith, c.callers.ensures.count))
          c.callers.ensures.plan.calls opened.rows.0 opened.rows.1 opened.bench opened.fresh;
      passes_for = c.passes_are_fresh.ensures;
    }

pub returns : goal.returns
returns g c =
    if_ok_as c.run_asked-report.result _ _
    (λ (report : Findings) is. told_report g.B.Pass.ObjectPass.made g.B.Pass.ObjectPass.cap
    g.B.Pass.ObjectPass.told c.args.script.now c.kind.result _
    (locals_on c.run_asked-report.new.bench) c.run_asked-report.new.passes.items report
    c.kind.ensures (outside_shapes _ _ _
    (c.in_ok-rows.ensures.rows.0 ∙ c.callers.ensures.count) c.in_ok-rows.ensures.rows.1)
    is.report is.counted) c.run_asked-report.ensures.report
