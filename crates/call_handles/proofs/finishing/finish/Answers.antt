use Rattle.std.proofs.Common.{◌∙◌, false, List, ℕ, refl, sym, ap, subst}
use Rattle.book_base.specs.declared.call.Record.{Record}
use Rattle.seq_objects.specs.Objects.{kind_spec}
use Rattle.row_table.specs.declared.stance.Stance.{Stance}
use Rattle.row_table.specs.Callers.{local_with}
use Rattle.row_gather.proofs.Kept.{gathered_by_stays}
use Rattle.drv_wrapper.specs.States.{announced_local}
use Rattle.enforcer.specs.declared.call_verdict.CallVerdict.{CallVerdict}
use Rattle.enforcer.specs.declared.outcome.Outcome.TheVariants as outcome
use Rattle.enforcer.specs.States.{caller_seen, cut_seen, record_seen}
use Rattle.enforcer.specs.Verdicts.{IsOutcome}
use Rattle.announced_calls.specs.Outside.{every_reply}
use Rattle.announced_calls.specs.Ends.{IsJudgedAs}
use Rattle.announced_calls.proofs.Published.{same_stays, peeks_stay, judged_as, delivered_with}
use Rattle.call_handles.proofs.finishing.finish.Goals as goal

pub judge_seen-requires-clause-rows : goal.judge_seen-requires-clause-rows
judge_seen-requires-clause-rows g c = c.publish_reply-seen.ensures.published.still.0

pub judge_seen-requires-clause-gathered : goal.judge_seen-requires-clause-gathered
judge_seen-requires-clause-gathered g c =
    gathered_by_stays (announced_local c.args.announced)
    (local_with c.publish_reply-seen.result.caller) c.args.gathered.now
    c.publish_reply-seen.ensures.published.grows.peeked c.requires.gathered

pub returns-in-Delivered-clause-ended : goal.returns-in-Delivered-clause-ended
returns-in-Delivered-clause-ended g c =
    let rows = c.args.rows.now in
    let call = c.args.announced in
    let spec = kind_spec c.args.kind in
    let seen = c.publish_reply-seen.result in
    let told = record_seen seen in
    let cut = cut_seen seen in
    let d = c.in-Ok.caller in
    let standing = c.judge_seen.new.standing in
    let holds = IsJudgedAs every_reply rows spec call c.args.reply d in
    let published = peeks_stay every_reply rows call c.args.reply (caller_seen seen) d told cut _ _
    c.in-Ok.ensures.caller c.in-Ok.ensures.peeks c.publish_reply-seen.ensures.published in
    let judged = judged_as every_reply rows call c.args.reply spec d told cut c.in-Ok.verdict
    standing published c.in-Ok.ensures.stance c.in-Ok.ensures.gathered c.in-Ok.ensures.verdict in
    let found = delivered_with holds told cut standing
    (subst (λ (v : CallVerdict). IsOutcome told cut v standing holds) c.in-Delivered.is judged) in
    (d, found.0, refl, found.1, found.2)

pub returns-in-Illegal-clause-ended : goal.returns-in-Illegal-clause-ended
returns-in-Illegal-clause-ended g c =
    let rows = c.args.rows.now in
    let call = c.args.announced in
    let spec = kind_spec c.args.kind in
    let seen = c.publish_reply-seen.result in
    let told = record_seen seen in
    let cut = cut_seen seen in
    let d = c.in-Ok.caller in
    let book = c.in-Illegal.book in
    let standing = c.judge_seen.new.standing in
    let holds = IsJudgedAs every_reply rows spec call c.args.reply d in
    let published = peeks_stay every_reply rows call c.args.reply (caller_seen seen) d told cut _ _
    c.in-Ok.ensures.caller c.in-Ok.ensures.peeks c.publish_reply-seen.ensures.published in
    let judged = judged_as every_reply rows call c.args.reply spec d told cut c.in-Ok.verdict
    standing published c.in-Ok.ensures.stance c.in-Ok.ensures.gathered c.in-Ok.ensures.verdict in
    let illegal = subst (λ (v : CallVerdict). IsOutcome told cut v standing holds)
    c.in-Illegal.is judged in
    let named = subst (λ (r : Record). holds (outcome.Illegal r.reply r.view cut book))
    (sym c.record-record.ensures) illegal in (
      record {
        caller = d;
        reply = c.record-record.result.reply;
        view = c.record-record.result.view;
        seen = c.cut-cut.result;
        book = book;
      },
      refl,
      subst (λ (x : List ℕ).
          holds (outcome.Illegal c.record-record.result.reply c.record-record.result.view x book))
          (sym c.cut-cut.ensures) named,
    )

pub returns-in-Err-clause-ended : goal.returns-in-Err-clause-ended
returns-in-Err-clause-ended g c =
    let rows = c.args.rows.now in
    let call = c.args.announced in
    let seen = c.publish_reply-seen.result in
    let told = record_seen seen in
    let cut = cut_seen seen in
    let back = c.in-Err.seen in
    let d = c.stop.result in (
      d,
      told,
      cut,
      refl,
      same_stays every_reply rows call c.args.reply (caller_seen back) d told cut
          c.stop.ensures.same
          (peeks_stay every_reply rows call c.args.reply (caller_seen seen) (caller_seen back) told
          cut _ _ c.in-Err.ensures.unjudged_caller c.in-Err.ensures.unjudged_peeks
          c.publish_reply-seen.ensures.published),
      c.stop.ensures.stance
          ∙ ap (λ (s : Stance). record s { live = false }) back.stands,
    )

pub returns-in-Err-clause-sound : goal.returns-in-Err-clause-sound
returns-in-Err-clause-sound g c =
    c.stop.ensures.same.rows every_reply c.args.rows.now c.in-Err.ensures.unjudged_caller.0
