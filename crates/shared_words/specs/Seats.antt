-- The seats of a log: their callers, what they know of the log, and to which log they belong.
use Rattle.std.specs.Prelude.{◌≡◌, ℕ, ◌*◌, ◌<◌, ◌≤◌, List, map, length, All, vec_capacity}
use Rattle.std.specs.List.{range_with_len}
use Rattle.shared_words.specs.declared.entry.Entry.{Entry}
use Rattle.shared_words.specs.declared.seat.OneSeat.{OneSeat}
use Rattle.shared_words.specs.declared.seat.LogSeat.{LogSeat}
use Rattle.shared_words.specs.declared.shared_log.SharedLog.{SharedLog}
use Rattle.shared_words.specs.Entries.{calls_by, BeginsWith, IsWithinCap, IsAfterCall}
use Rattle.shared_words.specs.Words.{HasTried}
use Rattle.row_table.specs.Holders.{has}
use Rattle.shared_words.specs.Hands.{Hand, the}

-- The hand that the seat of one caller has of this caller.
abbrev pub hand_with : OneSeat → Hand
hand_with s = the (has s.seat.me.0 s.who)

-- The number of a seat's caller.
abbrev pub caller_of : LogSeat → ℕ
caller_of s = s.seat.who

-- How many calls a seat's caller may make.
abbrev pub cap_of_seat : LogSeat → ℕ
cap_of_seat s = s.cap

-- The log up to the last call of a seat's caller.
abbrev pub log_of : LogSeat → List Entry
log_of s = s.log.items

-- How many calls a seat's caller has made.
abbrev pub made_by : LogSeat → ℕ
made_by s = length (calls_by (caller_of s) (log_of s))

-- The hand that a seat of a log has of its caller.
abbrev pub hand_of : LogSeat → Hand
hand_of s = hand_with s.seat

-- The indices of the words at which a seat's caller has made an exchange, in order.
abbrev pub tried_by : LogSeat → List ℕ
tried_by s = (hand_of s).tried

-- How many callers a log has.
abbrev pub callers_of : SharedLog → ℕ
callers_of l = l.callers

-- How many calls each caller of a log may make.
abbrev pub cap_of : SharedLog → ℕ
cap_of l = l.cap

-- The seat belongs to the table of this log, and its caller is one of the log's callers.
pub record IsPlaced (l : SharedLog) (s : OneSeat) : Type 0 where
  pub table : s.seat.table_id ≡ l.table.shared.table_id
  pub caller : s.who < l.callers

-- The seat belongs to this log: its caller is one of the log's callers and may make as many calls
-- as the log's cap says. It has capacity for the entries of all calls, and the entries that it
-- knows are within the log's callers and cap.
pub record IsSeatOf (l : SharedLog) (s : LogSeat) : Type 0 where
  pub placed : IsPlaced l s.seat
  pub cap : s.cap ≡ l.cap
  pub room : l.callers * l.cap ≤ vec_capacity s.log
  pub within : IsWithinCap l.callers l.cap s.log.items

-- These are the seats of all callers of a log, by caller.
pub record AreSeatsOf (l : SharedLog) (seats : List LogSeat) : Type 0 where
  pub callers : map caller_of seats ≡ range_with_len 0 (callers_of l)
  pub each : All (IsSeatOf l) seats

-- The log of the seat `after` is that of the seat `before` after a call of its caller with this
-- operation.
abbrev pub HasCalled : ℕ → LogSeat → LogSeat → Type 0
HasCalled op before after = IsAfterCall (caller_of before) op (log_of before) (log_of after)

-- The exchanges that a seat's caller has made after a call are those before the call, and then, in
-- order, at most one at the ticket of each place of the log that the caller didn't know before the
-- call and knows after it.
abbrev pub HasExchanged : SharedLog → LogSeat → LogSeat → Type 0
HasExchanged l before after = HasTried (callers_of l) (cap_of l) (length (log_of before))
    (length (log_of after)) (tried_by before) (tried_by after)

-- The one log of some seats: it begins with the log that each seat knows, and its entries of a
-- seat's caller are just those that this seat knows.
pub record IsOneLog (log : List Entry) (seats : List LogSeat) : Type 0 where
  pub prefixes : All (λ s. BeginsWith log (log_of s)) seats
  pub calls : All (λ s. calls_by (caller_of s) log ≡ calls_by (caller_of s) (log_of s)) seats
