use Rattle.std.proofs.Common.{rules, arith}
use denote.Param.Send.{sendable}
use Rattle.run_report.specs.Starts.{run_allotments}
use Rattle.std.proofs.lemmas.Slice.Zip.{AllZip-long}
use Rattle.run_report.proofs.Places.{down_all, down_across}
use Rattle.run_report.proofs.Returns.{unused_back, start_ready, start_spent}
use Rattle.run_report.proofs.Workers.{have_returned}
use Rattle.run_report.proofs.Sending.{judging_send}
use Rattle.run_report.proofs.asked.run_asked.Goals as goal

pub run_workers-requires : goal.run_workers-requires
run_workers-requires g c κs = (
  search (rules, c.type_bounds),
  (
    search (sendable, c.type_bounds.send-T),
    (
      search (sendable, judging_send, c.type_bounds.sync-S),
      (
        search (rules, c.type_bounds),
        (
          search (rules, c.type_bounds),
          (
            search (rules, c.type_bounds),
            down_all _ _ (λ i w start. start_ready _ _ _ _ _ _ _ _ i w c.requires.serves start)
                _ _ (omega (arith, c.in_ok-workers.ensures.workers.all))
                c.in_ok-workers.ensures.workers.each,
          ),
        ),
      ),
    ),
  ),
)

pub settle_all-requires-clause-workers : goal.settle_all-requires-clause-workers
settle_all-requires-clause-workers g c = record {
  all = omega (arith, AllZip-long _ _ _ c.run_workers.ensures, c.in_ok-workers.ensures.workers.all);
  each = down_across _ _ _ _ _ _ (λ i w d start ran. start_spent _ _ _ _ _ _ _ i w d start ran)
      c.in_ok-workers.ensures.workers.each c.run_workers.ensures;
}

pub end_all-requires-clause-passes : goal.end_all-requires-clause-passes
end_all-requires-clause-passes g c =
    omega (arith, c.in_ok-workers.ensures.capacity, c.requires.begins.passes_for.as_many)

pub report_of-report-requires-clause-callers : goal.report_of-report-requires-clause-callers
report_of-report-requires-clause-callers g c = omega (arith, c.requires.begins.begins.callers)

pub returns-in_err-workers-clause-returns : goal.returns-in_err-workers-clause-returns
returns-in_err-workers-clause-returns g c =
    let begun = c.in_err-workers.ensures in
    have_returned _ _ _ _ c.args.script.now (run_allotments c.args.script.now) _ _ _
    c.requires.begins.begins begun.bench begun.passes.as_many
    (unused_back _ _ _ _ _ _ _ _ begun.starts begun.passes)

pub returns-in_err-lines-clause-returns : goal.returns-in_err-lines-clause-returns
returns-in_err-lines-clause-returns g c =
    let ended = c.end_all.ensures in
    have_returned _ _ _ _ c.args.script.now _ _ _ _ c.requires.begins.begins ended.bench
    (omega (arith, ended.all_passes)) ended.back

pub returns-clause-returns : goal.returns-clause-returns
returns-clause-returns g c =
    let ended = c.end_all.ensures in
    have_returned _ _ _ _ c.args.script.now _ _ _ _ c.requires.begins.begins ended.bench
    (omega (arith, ended.all_passes)) ended.back
