use Rattle.std.proofs.Common.{refl, ap}
use Rattle.seq_objects.specs.Objects.{kind_spec}
use Rattle.run_report.proofs.Workers.{counted_told}
use Rattle.named_runs.proofs.RunLemmas.{RunEnds-from_report}
use Rattle.named_runs.proofs.RunningLemmas.{by_its_kind, ends_by_one, no_memory_ends, has_form}
use Rattle.named_runs.proofs.run.replay_and_write.Goals as goal

pub write_report-requires : goal.write_report-requires
write_report-requires g c = record {
  form = has_form (kind_spec c.kind.result) _ c.args.form _ refl
      c.in-Ok.ensures.report.report.lawful;
}

pub returns-in-Ok-clause-ends : goal.returns-in-Ok-clause-ends
returns-in-Ok-clause-ends g c =
    RunEnds-from_report _ _ _ _ _ _ _ _ (ap kind_spec c.kind.ensures)
    (record {
      report = by_its_kind _ _ _ _ _ _ c.kind.ensures c.in-Ok.ensures.report.report;
      told_in = counted_told _ _ _ _ _ _ c.in-Ok.ensures.report.counted;
    })
    c.write_report.ensures.ends

pub returns-in-Ok-clause-reported : goal.returns-in-Ok-clause-reported
returns-in-Ok-clause-reported g c =
    ends_by_one _ _ _ c.replay_over.new.bench c.args.script.now _ _ _
    (by_its_kind _ _ _ _ _ _ c.kind.ensures c.in-Ok.ensures.report.report)
    c.in-Ok.ensures.report.free
    c.write_report.ensures.found c.write_report.ensures.fine

pub returns-in-Err-clause-reported : goal.returns-in-Err-clause-reported
returns-in-Err-clause-reported g c = no_memory_ends _ _ _ _ _ _
