use Rattle.std.proofs.Common.{◌≡◌, ◌+◌, ◌≤◌, length, drop}
use Rattle.test_objects.specs.Replays.{list_after}
use Rattle.test_objects.proofs.invent.Invent.replay.Given as goal

abbrev pub invariant-loop-entry : goal.invariant-loop-entry
invariant-loop-entry g l =
    record {
      room : l.state.room ≡ l.fn.state.room;
      length : length l.state.words ≤ length l.fn.state.words + l.entry-index;
      list : list_after (g.S.SeqObject.spec l.self.object).next l.state.words
          (drop l.entry-index l.log)
          ≡ list_after (g.S.SeqObject.spec l.self.object).next l.fn.state.words (l.fn.log);
    }
