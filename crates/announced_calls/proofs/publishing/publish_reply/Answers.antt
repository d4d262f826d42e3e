use Rattle.announced_calls.specs.Outside.{every_reply}
use Rattle.announced_calls.proofs.Published.{Course, is_published}
use Rattle.announced_calls.proofs.publishing.publish_reply.Goals as goal

pub view-viewed-requires-clause-rows : goal.view-viewed-requires-clause-rows
view-viewed-requires-clause-rows g c =
    c.answer-answered.ensures.caller.rows _ c.args.rows.now c.requires.rows

pub returns : goal.returns
returns g c =
    let course : Course every_reply c.args.rows.now c.args.announced c.args.reply
    c.answer-answered.result c.view-viewed.result c.publish-published.result c.seen.result =
    record {
      same = c.answer-answered.ensures.caller;
      handed = c.answer-answered.ensures.reply;
      viewed = c.view-viewed.ensures.caller;
      view_reply = c.view-viewed.ensures.call.1;
      view_wide = c.view-viewed.ensures.wide;
      view_progress = c.view-viewed.ensures.progress;
      view_grows = c.view-viewed.ensures.grows;
      published = c.publish-published.ensures.caller;
      publish_record = c.publish-published.ensures.record;
      publish_progress = c.publish-published.ensures.progress;
      publish_grows = c.publish-published.ensures.grows;
      seen = c.seen.ensures.caller;
      seen_record = c.seen.ensures.record;
      seen_wide = c.seen.ensures.wide;
      seen_own = c.seen.ensures.own;
      seen_progress = c.seen.ensures.progress;
      seen_grows = c.seen.ensures.grows;
    } in
    record {
      published = is_published every_reply c.args.rows.now c.args.announced c.args.reply
          c.answer-answered.result c.view-viewed.result c.publish-published.result
          c.seen.result course;
    }
