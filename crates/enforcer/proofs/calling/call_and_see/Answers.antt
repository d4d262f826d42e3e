use Rattle.std.proofs.Common.{length, ap, ◌∙◌}
use Rattle.book_base.specs.declared.call.Record.{Record}
use Rattle.row_table.specs.Callers.{local_with}
use Rattle.collect_scan.specs.Scanned.{most_words}
use Rattle.drv_wrapper.proofs.Growing.{grows_on}
use Rattle.enforcer.proofs.WholeCalls.{called, ticks_of_scans}
use Rattle.enforcer.proofs.calling.call_and_see.Goals as goal

pub returns-clause-progress : goal.returns-clause-progress
returns-clause-progress g c =
    called c.args.op c.apply-viewed.result.record c.seen.result.record c.seen.result.cut
    (local_with c.args.caller)
    (local_with c.apply-viewed.result.caller) (local_with c.publish-published.result.caller)
    (local_with c.seen.result.caller) c.apply-viewed.ensures.progress
    c.publish-published.ensures.progress c.seen.ensures.progress
    (c.seen.ensures.record ∙ c.publish-published.ensures.record)

pub returns-clause-wide : goal.returns-clause-wide
returns-clause-wide g c = (
  ap (λ (r : Record). length r.view)
      (c.seen.ensures.record ∙ c.publish-published.ensures.record) ∙ c.apply-viewed.ensures.wide,
  c.seen.ensures.wide,
)

pub returns-clause-grows : goal.returns-clause-grows
returns-clause-grows g c =
    let l = local_with c.args.caller in
    let v = local_with c.apply-viewed.result.caller in
    let p = local_with c.publish-published.result.caller in
    let s = local_with c.seen.result.caller in
    grows_on l v s c.apply-viewed.ensures.grows
    (grows_on v p s c.publish-published.ensures.grows c.seen.ensures.grows)

pub returns-clause-ticks : goal.returns-clause-ticks
returns-clause-ticks g c =
    ticks_of_scans (most_words c.args.rows.now.callers) c.args.steps.now c.apply-viewed.new.steps
    c.publish-published.new.steps c.seen.new.steps c.apply-viewed.ensures.ticks
    c.publish-published.ensures.ticks c.seen.ensures.ticks
