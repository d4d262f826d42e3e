use Rattle.std.proofs.Common.{◌<◌, length, sym, ap, ◌∙◌, arith}
use Rattle.book_base.specs.State.{Contents}
use Rattle.test_objects.proofs.Replaying.{list_more, reply_more, length-replayed, fits_longer}
use Rattle.test_objects.proofs.plain.Plain.replay.Goals as goal

pub step-reply-requires : goal.step-reply-requires
step-reply-requires g c =
    let object = c.args.self.now.object in
    let k = c.loop-entry.invariant in
    let low : c.loop-entry.entry-index < length c.args.log.now = c.loop-entry-test.true in
    let most = length-replayed
    (g.S.SeqObject.spec object).next c.args.state.now.words c.args.log.now c.loop-entry.entry-index
    (record { caller = 0; op = 0 }) _ k.list low (g.met.S.GrowsByOne.grows_by_one object) in
    let room = c.requires in
    let same = k.room in
    fits_longer (g.S.SeqObject.spec object).next (g.met.S.GrowsByOne.grows_by_one object) _ _ _
    (omega arith)

pub loop-entry-preserved : goal.loop-entry-preserved
loop-entry-preserved g c =
    let object = c.args.self.now.object in
    let k = c.loop-entry.invariant in
    let low : c.loop-entry.entry-index < length c.args.log.now = c.loop-entry-test.true in
    let e = c.step-reply.ensures in
    record {
      room = ap (λ (s : Contents). s.room) e.list ∙ k.room;
      list = ap (λ (s : Contents). s.words) e.list ∙ sym (list_more (g.S.SeqObject.spec object).next
          c.args.state.now.words c.args.log.now c.loop-entry.entry-index _ _ k.list low);
      reply = e.reply ∙ sym (reply_more (g.S.SeqObject.spec object).next c.args.state.now.words
          c.args.log.now c.loop-entry.entry-index _ _ k.list low);
    }
