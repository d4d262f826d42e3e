use Rattle.std.proofs.Common.{◌≡◌, length, ap, ◌∙◌}
use Rattle.book_base.specs.declared.call.Record.{Record}
use Rattle.row_table.specs.Callers.{local_with}
use Rattle.report_lines.specs.Phases.{progress_of}
use Rattle.row_gather.specs.Peeks.{HasOnlyPeeked}
use Rattle.row_gather.proofs.Kept.{gathered_by_stays}
use Rattle.drv_wrapper.specs.Growth.{Grows}
use Rattle.enforcer.specs.Judged.{record_in, cut_in}
use Rattle.enforcer.specs.Kept.{TicksForNewAfter}
use Rattle.enforcer.specs.Enforced.{after_call, record_unjudged, TicksForWholeCall}
use Rattle.enforcer.proofs.WholeCalls.{ok_by, err_by, ok_from, err_from, whole_call, grows_peeking}
use Rattle.enforcer.proofs.enforcing.enforce.Goals as goal

pub returns-clause-grows : goal.returns-clause-grows
returns-clause-grows g c =
    let s = local_with c.call_and_see-seen.result.caller in
    ok_from c.judge.result
    (λ r. HasOnlyPeeked s (local_with r.0) c.call_and_see-seen.new.steps c.judge.new.steps)
    (λ r. Grows (local_with c.args.caller) (local_with r.0))
    (λ r peeks. grows_peeking (local_with c.args.caller) s (local_with r.0)
    c.call_and_see-seen.new.steps c.judge.new.steps c.call_and_see-seen.ensures.grows peeks)
    c.judge.ensures.peeks

pub returns-clause-unjudged_grows : goal.returns-clause-unjudged_grows
returns-clause-unjudged_grows g c =
    let s = local_with c.call_and_see-seen.result.caller in
    err_from c.judge.result
    (λ u. HasOnlyPeeked s (local_with u.caller) c.call_and_see-seen.new.steps c.judge.new.steps)
    (λ u. Grows (local_with c.args.caller) (local_with u.caller))
    (λ u peeks. grows_peeking (local_with c.args.caller) s (local_with u.caller)
    c.call_and_see-seen.new.steps c.judge.new.steps c.call_and_see-seen.ensures.grows peeks)
    c.judge.ensures.unjudged_peeks

pub returns-clause-progress : goal.returns-clause-progress
returns-clause-progress g c =
    let seen = c.call_and_see-seen.result in
    let r : Record = seen.record in
    let before = progress_of (local_with c.args.caller) in
    ok_by c.judge.result (λ x. HasOnlyPeeked (local_with seen.caller) (local_with x.0)
    c.call_and_see-seen.new.steps c.judge.new.steps) (λ x. record_in x.1 ≡ r)
    (λ x. cut_in x.1 ≡ seen.cut) (λ x. progress_of (local_with x.0)
    ≡ after_call c.args.op (record_in x.1) (cut_in x.1) before)
    (λ x peeks tells saw. whole_call c.args.op r (record_in x.1) seen.cut (cut_in x.1) before
    (local_with seen.caller) (local_with x.0) c.call_and_see-seen.new.steps c.judge.new.steps
    c.call_and_see-seen.ensures.progress peeks tells saw)
    c.judge.ensures.peeks c.judge.ensures.record c.judge.ensures.cut

pub returns-clause-unjudged_progress : goal.returns-clause-unjudged_progress
returns-clause-unjudged_progress g c =
    let seen = c.call_and_see-seen.result in
    let r : Record = seen.record in
    let before = progress_of (local_with c.args.caller) in
    err_by c.judge.result (λ u. HasOnlyPeeked (local_with seen.caller) (local_with u.caller)
    c.call_and_see-seen.new.steps c.judge.new.steps)
    (λ u. (u.reply ≡ seen.record.reply) × (u.view ≡ seen.record.view) × (u.seen ≡ seen.cut))
    (λ u.
    progress_of (local_with u.caller) ≡ after_call c.args.op (record_unjudged u) u.seen before)
    (λ u peeks tells. whole_call c.args.op r (record_unjudged u) seen.cut u.seen before
    (local_with seen.caller) (local_with u.caller) c.call_and_see-seen.new.steps c.judge.new.steps
    c.call_and_see-seen.ensures.progress peeks
    (λ i. record { reply = tells.0 i; view = tells.1 i }) tells.2)
    c.judge.ensures.unjudged_peeks c.judge.ensures.unjudged_record

pub returns-clause-wide : goal.returns-clause-wide
returns-clause-wide g c =
    let n = c.args.rows.now.callers in
    let seen = c.call_and_see-seen.result in
    let wide = c.call_and_see-seen.ensures.wide in
    ok_by c.judge.result (λ x. record_in x.1 ≡ seen.record)
    (λ x. cut_in x.1 ≡ seen.cut) (λ x. cut_in x.1 ≡ seen.cut)
    (λ x. (length (record_in x.1).view ≡ n) × (length (cut_in x.1) ≡ n))
    (λ x tells saw again.
    (ap (λ (r : Record). length r.view) tells ∙ wide.0, ap length saw ∙ wide.1))
    c.judge.ensures.record c.judge.ensures.cut c.judge.ensures.cut

pub returns-clause-unjudged_wide : goal.returns-clause-unjudged_wide
returns-clause-unjudged_wide g c =
    let n = c.args.rows.now.callers in
    let seen = c.call_and_see-seen.result in
    let wide = c.call_and_see-seen.ensures.wide in
    err_from c.judge.result
    (λ u. (u.reply ≡ seen.record.reply) × (u.view ≡ seen.record.view) × (u.seen ≡ seen.cut))
    (λ u. (length u.view ≡ n) × (length u.seen ≡ n))
    (λ u tells. (ap length tells.1 ∙ wide.0, ap length tells.2 ∙ wide.1))
    c.judge.ensures.unjudged_record

pub judge-requires-clause-gathered : goal.judge-requires-clause-gathered
judge-requires-clause-gathered g c =
    gathered_by_stays (local_with c.args.caller) (local_with c.call_and_see-seen.result.caller)
    c.args.gathered.now c.call_and_see-seen.ensures.grows.peeked c.requires.gathered

pub returns-clause-new_words : goal.returns-clause-new_words
returns-clause-new_words g c =
    let n = c.args.rows.now.callers in
    let scanned = c.call_and_see-seen.new.steps in
    let few = c.call_and_see-seen.ensures.ticks in
    ok_from c.judge.result
    (λ r. TicksForNewAfter n c.args.gathered.now r.1 c.judge.new.gathered scanned c.judge.new.steps)
    (λ r. TicksForWholeCall n c.args.gathered.now r.1 c.judge.new.gathered c.args.steps.now
    c.judge.new.steps)
    (λ r new_words. (scanned, few.0, few.1, new_words))
    c.judge.ensures.new_words
