use Rattle.std.proofs.Common.{◌≡◌, ℕ, ◌+◌, ◌*◌, ◌<◌, ◌≤◌, [], Some, map, vec_len, vec_capacity}
use Rattle.std.specs.List.{All, range_with_len}
use Rattle.row_table.specs.Holders.{has}
use Rattle.shared_words.specs.Hands.{empty}
use Rattle.shared_words.specs.Seats.{caller_of, log_of, IsSeatOf}
use Rattle.shared_words.proofs.shared_log.SharedLog.deal.Given as goal

abbrev pub ghosts-leave_as : goal.ghosts-leave_as
ghosts-leave_as a = record { who = a.who }

abbrev pub invariant-loop-who : goal.invariant-loop-who
invariant-loop-who l =
    record {
      table : l.seat.table_id ≡ l.self.table.shared.table_id;
      left : (i : ℕ) → l.who ≤ i → i < l.self.callers → has l.seat.me.0 i ≡ Some empty;
      logs : vec_len l.logs + l.who ≡ l.self.callers;
      clear : All
          (λ log. (log.items ≡ []) × (l.self.callers * l.self.cap ≤ vec_capacity log)) l.logs.items;
      count : vec_len l.seats ≡ l.who;
      callers : map caller_of l.seats.items ≡ range_with_len 0 l.who;
      each : All (IsSeatOf l.self) l.seats.items;
      fresh : All (λ s. log_of s ≡ []) l.seats.items;
      room : l.self.callers ≤ vec_capacity l.seats;
    }
