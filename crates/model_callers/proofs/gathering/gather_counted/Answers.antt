use Rattle.std.proofs.Common.{◌∙◌, ℕ, List, false, sym, ap, subst}
use Rattle.book_base.specs.declared.call.Record.{Record}
use Rattle.world_core.specs.Local.{Local}
use Rattle.world_core.specs.Calls.{IsGathered}
use Rattle.world_core.specs.Event.{is_unstaged}
use Rattle.row_table.specs.declared.stance.Stance.{Stance}
use Rattle.row_table.specs.Callers.{local_with}
use Rattle.row_gather.specs.Exact.{IsTheBookAt}
use Rattle.row_gather.proofs.Kept.{gathered_by_stays}
use Rattle.drv_wrapper.specs.States.{announced_local}
use Rattle.enforcer.specs.Recorded.{is_announcing}
use Rattle.enforcer.specs.States.{caller_seen, cut_seen, record_seen}
use Rattle.enforcer.proofs.Standing.{announcing_is, unstaged_is}
use Rattle.announced_calls.specs.Outside.{every_reply}
use Rattle.announced_calls.specs.Ends.{IsPublishedBy}
use Rattle.announced_calls.proofs.Published.{same_stays, peeks_stay}
use Rattle.model_callers.proofs.Gathered.{same_gathered, same_exact}
use Rattle.model_callers.proofs.gathering.gather_counted.Goals as goal

pub gather-requires-clause-gathered : goal.gather-requires-clause-gathered
gather-requires-clause-gathered g c =
    gathered_by_stays (announced_local c.args.call)
    (local_with (caller_seen c.publish_reply-seen.result)) c.args.gathered
    c.publish_reply-seen.ensures.published.grows.peeked c.requires.gathered

pub returns-in-Ok-clause-published : goal.returns-in-Ok-clause-published
returns-in-Ok-clause-published g c =
    let rows = c.args.rows.now in
    let call = c.args.call in
    let seen = c.publish_reply-seen.result in
    let now = c.gather.new.seen in
    let d = c.defer.result in
    let same = c.defer.ensures.caller in
    let found = c.in-Ok.gathered in
    let told = c.record-record.result in
    let published = same_stays every_reply rows call c.args.reply (caller_seen now) d
    (record_seen seen) (cut_seen seen) same
    (peeks_stay every_reply rows call c.args.reply (caller_seen seen) (caller_seen now)
    (record_seen seen) (cut_seen seen) _ _ c.gather.ensures.caller c.gather.ensures.peeks
    c.publish_reply-seen.ensures.published) in
    record {
      gathered = record {
        caller = same.rows every_reply rows c.gather.ensures.caller.0;
        gathered =
            subst (λ (x : List ℕ). IsGathered rows.callers (local_with d) x found.book)
            (sym c.in-Ok.ensures.at) (same_gathered rows (caller_seen now) d (cut_seen now)
            found.book same c.in-Ok.ensures.gathered);
        exact =
            subst (λ (x : List ℕ). IsTheBookAt every_reply rows d x found.book)
            (sym c.in-Ok.ensures.at) (same_exact rows (caller_seen now) d (cut_seen now)
            found.book same c.in-Ok.ensures.exact);
      };
      free = record {
        idle = record {
          announcing = announcing_is _
              (ap (λ (l : Local). is_announcing l.phase) same.local ∙ now.saw.announcing);
          unstaged = unstaged_is _
              (ap (λ (l : Local). is_unstaged l.staged) same.local ∙ now.saw.unstaged);
        };
        stance = c.defer.ensures.stance ∙ now.stands;
      };
      published =
          subst (λ (x : List ℕ). IsPublishedBy every_reply rows call c.args.reply d told x)
          (sym (c.in-Ok.ensures.at ∙ c.gather.ensures.cut))
          (subst
          (λ (x : Record). IsPublishedBy every_reply rows call c.args.reply d x (cut_seen seen))
          (sym c.record-record.ensures) published);
    }

pub returns-clause-unjudged : goal.returns-clause-unjudged
returns-clause-unjudged g c =
    let rows = c.args.rows.now in
    let call = c.args.call in
    let seen = c.publish_reply-seen.result in
    let now = c.gather.new.seen in (
      record_seen seen,
      cut_seen seen,
      same_stays every_reply rows call c.args.reply (caller_seen now) c.stop.result
          (record_seen seen) (cut_seen seen) c.stop.ensures.same
          (peeks_stay every_reply rows call c.args.reply (caller_seen seen) (caller_seen now)
          (record_seen seen) (cut_seen seen) _ _ c.gather.ensures.caller c.gather.ensures.peeks
          c.publish_reply-seen.ensures.published),
      c.stop.ensures.stance ∙ ap (λ (s : Stance). record s { live = false }) now.stands,
    )

pub returns-clause-caller : goal.returns-clause-caller
returns-clause-caller g c =
    c.stop.ensures.same.rows every_reply c.args.rows.now c.gather.ensures.caller.0
