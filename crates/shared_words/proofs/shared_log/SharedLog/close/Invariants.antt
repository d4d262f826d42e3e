use Rattle.std.proofs.Common.{◌≡◌, map, vec_len}
use Rattle.shared_words.proofs.LogClosing.{IsClosing}
use Rattle.shared_words.proofs.shared_log.SharedLog.close.Given as goal

abbrev pub invariant-loop-seated : goal.invariant-loop-seated
invariant-loop-seated g l =
    record {
      table : l.keeper.table_id ≡ l.fn.self.table.shared.table_id;
      closing : IsClosing l.fn.self.callers (map g.P.Seated.seat l.fn.seats.items)
          (map g.P.Seated.seat l.seats.items) l.keeper.me.0 l.longest.items;
    }

abbrev pub decreases-loop-seated : goal.decreases-loop-seated
decreases-loop-seated g l = vec_len l.seats
