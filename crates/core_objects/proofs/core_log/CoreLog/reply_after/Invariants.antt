use Rattle.std.proofs.Common.{◌≡◌, ◌+◌, ◌-◌, ◌≤◌, length, take}
use Rattle.book_base.specs.Reaching.{SufficesAfter}
use Rattle.world_objects.specs.LogProgram.{list_of}
use Rattle.core_objects.proofs.core_log.CoreLog.reply_after.Given as goal

abbrev pub invariant-loop-place : goal.invariant-loop-place
invariant-loop-place g l =
    record {
      words : l.state.words ≡ list_of (g.S.SeqObject.spec l.self.object).next
          (g.S.SeqObject.spec l.self.object).init (take l.place l.log);
      room : l.state.room ≡ l.fn.state.room;
      fits : SufficesAfter (g.S.SeqObject.spec l.self.object).next l.state.words
          (length l.log + 1 - l.place) l.state.room;
      within : l.place ≤ length l.log;
    }
