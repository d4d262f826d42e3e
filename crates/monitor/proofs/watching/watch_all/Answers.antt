use Rattle.std.proofs.Common.{◌∙◌, ◌+◌, length, arith}
use Rattle.std.proofs.lemmas.Slice.Zip.{AllZip-long}
use Rattle.run_report.proofs.Places.{down_all, down_across}
use Rattle.run_report.proofs.Returns.{unused_back, start_ready, start_spent}
use Rattle.monitor.proofs.Monitoring.{returned_beside}
use Rattle.monitor.proofs.Returning.{begins_unused, free_on, monitors_back, back_watched}
use Rattle.monitor.proofs.watching.watch_all.Goals as goal

pub returns-in_err-workers-clause-monitors : goal.returns-in_err-workers-clause-monitors
returns-in_err-workers-clause-monitors g c i one =
    let unused = begins_unused _ _ _ _ c.requires.begins.begins i one in
    let alike = c.start_all.ensures.others i one.after in
    record {
      local = unused.local;
      here = alike.0 ∙ unused.here;
      stance = alike.1 ∙ unused.stance;
      idle = unused.idle;
      none = unused.none;
    }

pub returns-in_err-workers-clause-returns : goal.returns-in_err-workers-clause-returns
returns-in_err-workers-clause-returns g c =
    let begun = c.in_err-workers.ensures in
    returned_beside _ _ _ _ c.args.script.now _ _ _ c.requires.begins.begins begun.bench
    begun.passes.as_many (unused_back _ _ _ _ c.args.script.now _ _ _ begun.starts begun.passes)
    (returns-in_err-workers-clause-monitors g c)

pub watch_in-one-requires-clause-ready : goal.watch_in-one-requires-clause-ready
watch_in-one-requires-clause-ready g c κs within =
    down_all _ _ (λ i w start. start_ready _ _ _ _ _ _ _ _ i w c.requires.serves start) _ _
    (omega (arith, c.in_ok-workers.ensures.workers.all)) c.in_ok-workers.ensures.workers.each

pub watch_in-one-requires-clause-free : goal.watch_in-one-requires-clause-free
watch_in-one-requires-clause-free g c κs within =
    let count = c.callers-callers.ensures.count in
    let k = c.callers-callers.result in
    let unused = begins_unused _ c.args.script.now _ _ c.requires.begins.begins in (
      free_on _ c.args.bench.now c.start_all.new.bench c.start_all.ensures.others k
          (omega (arith, count))
          (unused k (record { after = omega (arith, count); before = omega (arith, count) })),
      free_on _ c.args.bench.now c.start_all.new.bench c.start_all.ensures.others (k + 1)
          (omega (arith, count))
          (unused (k + 1) (record { after = omega (arith, count); before = omega (arith, count) })),
    )

pub watch_in-one-requires-clause-few : goal.watch_in-one-requires-clause-few
watch_in-one-requires-clause-few g c κs within = omega (
  arith,
  c.callers-callers.ensures.count,
  c.requires.begins.begins.callers,
  c.args.shared.now.rows.now.few.1,
)

pub end_all-requires-clause-workers : goal.end_all-requires-clause-workers
end_all-requires-clause-workers g c = record {
  all = omega
      (arith, AllZip-long _ _ _ c.watch_in-one.ensures.done, c.in_ok-workers.ensures.workers.all);
  each = down_across _ _ _ _ _ _ (λ i w d start ran. start_spent _ _ _ _ _ _ _ i w d start ran)
      c.in_ok-workers.ensures.workers.each c.watch_in-one.ensures.done;
}

pub end_all-requires-clause-gone : goal.end_all-requires-clause-gone
end_all-requires-clause-gone g c i low =
    let count = c.callers-callers.ensures.count in
    (c.watch_in-one.ensures.others i (λ same. omega (arith, low, same, count))
    (λ same. omega (arith, low, same, count))).local ∙ c.in_ok-workers.ensures.gone i low

pub end_all-requires-clause-passes : goal.end_all-requires-clause-passes
end_all-requires-clause-passes g c =
    omega (arith, c.in_ok-workers.ensures.capacity, c.requires.begins.passes_for.as_many)

pub returns-in_err-lines-clause-monitors : goal.returns-in_err-lines-clause-monitors
returns-in_err-lines-clause-monitors g c =
    let watched = c.watch_in-one.ensures in
    monitors_back _ _ _ c.args.script.now _ _ c.args.bench.now c.start_all.new.bench
    c.watch_in-one.new.bench c.end_all.new.bench c.requires.begins.begins c.start_all.ensures.others
    c.end_all.ensures.others _ _ c.callers-callers.result c.callers-callers.ensures.count
    watched.one watched.other

pub returns-in_err-lines-clause-returns : goal.returns-in_err-lines-clause-returns
returns-in_err-lines-clause-returns g c =
    let ended = c.end_all.ensures in
    returned_beside _ _ _ _ c.args.script.now _ _ _ c.requires.begins.begins ended.bench
    (omega (arith, ended.all_passes)) ended.back (returns-in_err-lines-clause-monitors g c)

pub returns-clause-monitors : goal.returns-clause-monitors
returns-clause-monitors g c =
    let watched = c.watch_in-one.ensures in
    monitors_back _ _ _ c.args.script.now _ _ c.args.bench.now c.start_all.new.bench
    c.watch_in-one.new.bench c.end_all.new.bench c.requires.begins.begins c.start_all.ensures.others
    c.end_all.ensures.others _ _ c.callers-callers.result c.callers-callers.ensures.count
    watched.one watched.other

pub returns-clause-returns : goal.returns-clause-returns
returns-clause-returns g c =
    let ended = c.end_all.ensures in
    returned_beside _ _ _ _ c.args.script.now _ _ _ c.requires.begins.begins ended.bench
    (omega (arith, ended.all_passes)) ended.back (returns-clause-monitors g c)

pub returns-clause-one : goal.returns-clause-one
returns-clause-one g c l here =
    let n = length c.args.script.now.operations in
    let count = c.callers-callers.ensures.count in
    back_watched (g.S.SeqObject.spec c.args.sequential.now) c.args.shared.now.rows.now.callers n
    c.args.rounds
    c.args.bench.now c.start_all.new.bench c.watch_in-one.new.bench c.end_all.new.bench
    c.start_all.ensures.others c.end_all.ensures.others c.watch_in-one.result.0 n
    c.callers-callers.result (omega (arith, count))
    (omega arith) c.watch_in-one.ensures.one l here

pub returns-clause-other : goal.returns-clause-other
returns-clause-other g c l here =
    let n = length c.args.script.now.operations in
    let count = c.callers-callers.ensures.count in
    back_watched (g.S.SeqObject.spec c.args.sequential.now) c.args.shared.now.rows.now.callers n
    c.args.rounds
    c.args.bench.now c.start_all.new.bench c.watch_in-one.new.bench c.end_all.new.bench
    c.start_all.ensures.others c.end_all.ensures.others c.watch_in-one.result.1 (n + 1)
    (c.callers-callers.result + 1) (omega (arith, count))
    (omega arith) c.watch_in-one.ensures.other l here
