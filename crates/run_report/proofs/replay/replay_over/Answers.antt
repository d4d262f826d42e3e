use Rattle.std.proofs.Common.{arith}
use Rattle.run_report.specs.Starts.{replay_allotments}
use Rattle.run_report.proofs.Returns.{unused_back}
use Rattle.run_report.proofs.Workers.{have_returned, returned_outside}
use Rattle.run_report.proofs.replay.replay_over.Goals as goal

pub end_all-requires-clause-passes : goal.end_all-requires-clause-passes
end_all-requires-clause-passes g c =
    omega (arith, c.in_ok-workers.ensures.capacity, c.requires.begins.passes_for.as_many)

pub report_of-report-requires-clause-callers : goal.report_of-report-requires-clause-callers
report_of-report-requires-clause-callers g c = omega (arith, c.requires.begins.begins.callers)

pub returns-in_err-workers-clause-returns : goal.returns-in_err-workers-clause-returns
returns-in_err-workers-clause-returns g c =
    let begun = c.in_err-workers.ensures in
    returned_outside _ _ _ _ _ _ _ _ _ _ _
    (have_returned _ _ _ _ c.args.script.now (replay_allotments c.args.script.now) _ _ _
    c.requires.begins.begins begun.bench begun.passes.as_many (unused_back _ _ _ _ _ _ _ _
    begun.starts begun.passes))

pub returns-in_err-lines-clause-returns : goal.returns-in_err-lines-clause-returns
returns-in_err-lines-clause-returns g c =
    let ended = c.end_all.ensures in
    returned_outside _ _ _ _ _ _ _ _ _ _ _
    (have_returned _ _ _ _ c.args.script.now _ _ _ _ c.requires.begins.begins ended.bench (omega
    (arith, ended.all_passes)) ended.back)

pub returns-clause-returns : goal.returns-clause-returns
returns-clause-returns g c =
    let ended = c.end_all.ensures in
    returned_outside _ _ _ _ _ _ _ _ _ _ _
    (have_returned _ _ _ _ c.args.script.now _ _ _ _ c.requires.begins.begins ended.bench (omega
    (arith, ended.all_passes)) ended.back)
