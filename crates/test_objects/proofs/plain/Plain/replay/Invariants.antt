use Rattle.std.proofs.Common.{◌≡◌, take}
use Rattle.test_objects.specs.Replays.{list_after, last_reply}
use Rattle.test_objects.proofs.plain.Plain.replay.Given as goal

abbrev pub invariant-loop-entry : goal.invariant-loop-entry
invariant-loop-entry g l =
    record {
      room : l.state.room ≡ l.fn.state.room;
      list : l.state.words ≡ list_after (g.S.SeqObject.spec l.self.object).next l.fn.state.words
          (take l.entry-index l.log);
      reply : l.reply ≡ last_reply (g.S.SeqObject.spec l.self.object).next l.fn.state.words
          (take l.entry-index l.log);
    }
