use Rattle.std.proofs.Common.{◌<◌, length, ◌∙◌, arith}
use Rattle.test_objects.proofs.Waiting.{list_more, waiting_more}
use Rattle.test_objects.proofs.late.Late.replay.Goals as goal

pub loop-entry-preserved : goal.loop-entry-preserved
loop-entry-preserved g c =
    let k = c.loop-entry.invariant in
    let i = c.loop-entry.entry-index in
    let log = c.args.log.now in
    let low : i < length log = c.loop-entry-test.true in
    let old = c.args.scratch.now in
    let waiting = c.loop-entry.scratch.waiting.items in
    let next = (g.S.SeqObject.spec c.args.self.now.object).next in
    let here = c.requires.callers i _ low in
    let long = k.room.waiting in
    let turn = c.turn.ensures in
    record {
      list = list_more next old.state.words waiting log i _ low c.loop-entry.scratch.state.words _
          k.list (k.waiting _ here) turn.list;
      waiting = λ j within. waiting_more next old.state.words waiting log i _ low _ j turn.waiting
          (omega (arith, c.loop-entry.scratch.waiting.ok.0)) (k.waiting j within);
      count = let most = turn.count in let before = k.count in omega arith;
      room = record {
        state = turn.room.state ∙ k.room.state;
        other = turn.room.other ∙ k.room.other;
        waiting = turn.room.waiting ∙ k.room.waiting;
      };
    }
