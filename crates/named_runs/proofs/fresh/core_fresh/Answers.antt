use Rattle.std.proofs.Common.{◌∙◌, arith}
use Rattle.run_report.proofs.Starts.{may_begin}
use Rattle.named_runs.proofs.FreshRuns.{RunEnds-weaker}
use Rattle.named_runs.proofs.InsideRuns.{opened_with, passes_for_rows, inside_report}
use Rattle.named_runs.proofs.fresh.core_fresh.Goals as goal

pub core_and_write-status-requires-clause-program :
    goal.core_and_write-status-requires-clause-program
core_and_write-status-requires-clause-program g c κs within =
    let opened = c.in-Ok.ensures.rows in
    opened_with c.in-Ok.rows _ _ opened.0 opened.1 g.O.P.Program.meaning _ _ opened.2 opened.3
    c.program.ensures

pub core_and_write-status-requires-clause-begins : goal.core_and_write-status-requires-clause-begins
core_and_write-status-requires-clause-begins g c κs within =
    let opened = c.in-Ok.ensures in
    record {
      begins = may_begin _ c.args.script.now 0 _ c.args.cap _ _
          (omega (arith, c.callers.ensures.count)) c.requires.calls opened.rows.0 opened.rows.1
          opened.bench opened.fresh;
      passes_for = passes_for_rows c.in-Ok.rows _ _ (opened.rows.0 ∙ c.callers.ensures.count)
          opened.rows.1 (g.O.CoreObject.fits c.args.object.now) _ c.requires.passes;
    }

pub returns-clause-ends : goal.returns-clause-ends
returns-clause-ends g c =
    let opened = c.in-Ok.ensures.rows in
    let done = c.core_and_write-status.ensures in
    RunEnds-weaker _ _ _ _ _ _ _
    (inside_report c.in-Ok.rows _ _ (opened.0 ∙ c.callers.ensures.count) opened.1
    g.O.P.Program.meaning _
    (opened.2 ∙ c.program.ensures) _ (g.O.CoreObject.fits c.args.object.now) _ _
    c.args.script.now _ _ c.close_shown.ensures
    done.returns.all_passes done.returns.back)
    done.ends
