use Rattle.std.proofs.Common.{sym, ap}
use Rattle.named_runs.proofs.RunLemmas.{RunEnds-from_report}
use Rattle.named_runs.proofs.RunningLemmas.{one_standing, has_form}
use Rattle.named_runs.proofs.run.core_and_write.Goals as goal

pub write_report-requires : goal.write_report-requires
write_report-requires g c = record {
  form = has_form _ _ c.args.form c.in-Ok.report
      (ap g.O.S.SeqObject.spec (sym c.sequential.ensures))
      c.in-Ok.ensures.report.report.lawful;
}

pub returns-in-Ok-clause-ends : goal.returns-in-Ok-clause-ends
returns-in-Ok-clause-ends g c =
    RunEnds-from_report _ _ _ _ _ _ _ _
    (ap g.O.S.SeqObject.spec c.sequential.ensures)
    (record { report = c.in-Ok.ensures.report.report; no_error = c.in-Ok.ensures.no_error })
    c.write_report.ensures.ends

pub returns-in-Ok-clause-fine : goal.returns-in-Ok-clause-fine
returns-in-Ok-clause-fine g c = c.write_report.ensures.fine c.in-Ok.ensures.no_error

pub returns-in-Ok-clause-free : goal.returns-in-Ok-clause-free
returns-in-Ok-clause-free g c some report is =
    one_standing _ _ _ _ c.run_core.new.bench _ _ _ c.in-Ok.ensures.report.report is
    c.in-Ok.ensures.report.free
