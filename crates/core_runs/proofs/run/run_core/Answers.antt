use Rattle.std.proofs.Common.{◌≡◌, subst, arith, false, None}
use Rattle.std.specs.Prelude.{IfOk}
use Rattle.std.specs.List.{list_any}
use Rattle.report_lines.specs.Lines.{any_error}
use Rattle.reports.specs.Findings.{Findings}
use Rattle.run_report.specs.Starts.{run_allotments}
use Rattle.run_report.specs.Reporting.{IsRunReport}
use Rattle.run_report.proofs.Workers.{if_ok_as}
use Rattle.core_runs.proofs.Passes.{core_passes_are_fresh}
use Rattle.core_runs.proofs.Errors.{no_line_is_an_error}
use Rattle.core_runs.proofs.run.run_core.Goals as goal

pub run_asked-requires-clause-begins : goal.run_asked-requires-clause-begins
run_asked-requires-clause-begins g c κs within =
    let may = c.requires.begins in
    record {
      begins = may.begins;
      passes_for = core_passes_are_fresh c.args.rows.now (g.O.CoreObject.fits c.args.object.now)
          c.args.script.now.operations _ (omega (arith, may.begins.callers)) may.passes_for;
    }

pub returns-clause-report : goal.returns-clause-report
returns-clause-report g c =
    let done = c.run_asked in
    subst (λ (x : _). IfOk done.result (IsRunReport (g.O.S.SeqObject.spec x) g.O.P.Program.meaning
    c.args.rows.now (λ pass. None) c.args.script.now (run_allotments c.args.script.now)
    done.new.bench done.new.passes.items)) c.sequential.ensures done.ensures.report

pub returns-clause-no_error : goal.returns-clause-no_error
returns-clause-no_error g c =
    let plan = c.args.script.now in
    let object = c.args.object.now in
    if_ok_as c.run_asked.result _ (λ (report : Findings). list_any any_error report.lines ≡ false)
    (λ report is. no_line_is_an_error g.O.P.Program.meaning
    (g.O.CoreObject.program_of object) c.args.rows.now c.requires.program
    (g.O.S.SeqObject.spec (g.O.CoreObject.sequential_of object)) c.runs_of.ensures
    plan.operations (run_allotments plan) report.lines is.report.lawful)
    (returns-clause-report g c)
