-- Continuations: what may follow after a configuration of a stream, where the stream continues.
use Rattle.std.specs.Prelude.{◌≡◌, ℕ, ◌<◌, ◌≤◌, ◌⊎◌, List, ◌++◌, map, length, Some, slice_get}
use Rattle.book_base.specs.Sequential.{IsRunFrom}
use Rattle.streams.specs.Stream.{StreamEvent, Returned, process_of, IsCalledAt, IsStreamCall, IsQuiet, Returns, StreamPrecedes}
use Rattle.streams.specs.StreamOrder.{StreamPlace, stream_step, IsAmong}
use Rattle.residue_laws.specs.Residue.{Configuration}

-- Places are a legal continuation of a stream from a configuration, for the events that follow on
-- the stream.
pub record IsContinuation (next : List ℕ → ℕ → List ℕ × ℕ) (stream later : List StreamEvent)
    (at : Configuration) (rest : List StreamPlace) : Type 0 where
  -- each call of the continuation is a call of the longer stream
  pub calls : (place : StreamPlace) → IsAmong rest place
      → IsStreamCall (stream ++ later) place.call
  -- it returned nowhere in the stream so far, and isn't placed yet
  pub pending : (place : StreamPlace) → IsAmong rest place → (end reply : ℕ)
      → Returns (stream ++ later) place.call end reply → length stream ≤ end
  pub unplaced : (place other : StreamPlace) → IsAmong rest place → IsAmong at.placed other
      → other.call ≡ place.call → ⊥
  -- no call is in the continuation twice
  pub once : (j k : ℕ) (a b : StreamPlace) → slice_get rest j ≡ Some a → slice_get rest k ≡ Some b
      → a.call ≡ b.call → j ≡ k
  -- each call that returns in the events that follow is placed with its reply, or in the
  -- continuation with its reply
  pub returned : (call end reply : ℕ) → Returns (stream ++ later) call end reply
      → length stream ≤ end
      → IsAmong at.placed (record { call = call; reply = reply })
      ⊎ IsAmong rest (record { call = call; reply = reply })
  -- the replies are those that the object gives from the configuration's list on
  pub run : IsRunFrom next at.list (map (stream_step (stream ++ later)) rest)
  -- of two calls of the continuation, one that precedes the other is before it
  pub precedence : (j k : ℕ) (a b : StreamPlace) → slice_get rest j ≡ Some a
      → slice_get rest k ≡ Some b → StreamPrecedes (stream ++ later) a.call b.call → j < k

-- A call never returns, however the stream continues: the first event of its process after it is no
-- return. In a valid stream this event is the loss of the call.
abbrev pub NeverReturns : List StreamEvent → ℕ → ℕ → Type 0
NeverReturns stream call op = (process : ℕ) × (end : ℕ) × (event : StreamEvent)
    × IsCalledAt stream call process op × (slice_get stream end ≡ Some event)
    × (process_of event ≡ process)
    × ((reply : ℕ) → event ≡ Returned process reply → ⊥)
    × (call < end) × IsQuiet stream process call end

-- A stream has the pending calls of another one: both are equally long, each process that waits
-- after the other one waits for the same call of the same operation, and each call that never
-- returns after the other one never returns, with the same operation.
pub record HasPendingCallsOf (other stream : List StreamEvent) : Type 0 where
  pub long : length other ≡ length stream
  pub waiting : (process call op : ℕ) → IsCalledAt other call process op
      → IsQuiet other process call (length other)
      → IsCalledAt stream call process op × IsQuiet stream process call (length stream)
  pub lost : (call op : ℕ) → NeverReturns other call op → NeverReturns stream call op

-- two streams have the same pending calls
abbrev pub HaveTheSamePendingCalls : List StreamEvent → List StreamEvent → Type 0
HaveTheSamePendingCalls one other = HasPendingCallsOf one other × HasPendingCallsOf other one
