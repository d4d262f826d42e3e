use Rattle.std.proofs.Common.{◌∙◌, ap}
use Rattle.world_core.specs.Local.{Local}
use Rattle.world_core.specs.Event.{is_unstaged}
use Rattle.enforcer.specs.Recorded.{is_announcing}
use Rattle.enforcer.specs.States.{caller_seen, cut_seen, record_seen}
use Rattle.enforcer.proofs.Standing.{announcing_is, unstaged_is}
use Rattle.announced_calls.specs.Outside.{every_reply}
use Rattle.announced_calls.proofs.Published.{same_stays}
use Rattle.announced_calls.proofs.publishing.publish_counted.Goals as goal

pub returns-clause-published : goal.returns-clause-published
returns-clause-published g c =
    let seen = c.publish_reply.result in (
      record_seen seen,
      cut_seen seen,
      same_stays every_reply c.args.rows.now c.args.call c.args.reply (caller_seen seen)
          c.defer.result (record_seen seen) (cut_seen seen) c.defer.ensures.caller
          c.publish_reply.ensures.published,
    )

pub returns-clause-free : goal.returns-clause-free
returns-clause-free g c =
    let same = c.defer.ensures.caller in
    let saw = c.publish_reply.result.saw in
    record {
      idle = record {
        announcing =
            announcing_is _ (ap (λ (l : Local). is_announcing l.phase) same.local ∙ saw.announcing);
        unstaged =
            unstaged_is _ (ap (λ (l : Local). is_unstaged l.staged) same.local ∙ saw.unstaged);
      };
      stance = c.defer.ensures.stance ∙ c.publish_reply.result.stands;
    }
