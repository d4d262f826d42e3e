-- Streams: calls of processes, their returns and their losses, in the order in which they came.
use Rattle.std.specs.Prelude.{◌≡◌, ℕ, ◌<◌, List, length, Some, slice_get}

-- An event of a stream: a process calls an operation, which is a word; the pending call of a
-- process returns with a reply; or the pending call of a process is lost. A lost call may take
-- effect at any later time or never, and its process may call again.
pub data StreamEvent : Type 0 where
  Called : ℕ → ℕ → StreamEvent
  Returned : ℕ → ℕ → StreamEvent
  Lost : ℕ → StreamEvent

-- the process of an event
abbrev pub process_of : StreamEvent → ℕ
process_of (Called process op) = process
process_of (Returned process reply) = process
process_of (Lost process) = process

-- the event ends the pending call of its process: it is a return or a loss
abbrev pub Ends : StreamEvent → Type 0
Ends (Called process op) = ⊥
Ends (Returned process reply) = Unit {0}
Ends (Lost process) = Unit {0}

-- A call of a stream is named by its place there. A process calls an operation at a place.
abbrev pub IsCalledAt : List StreamEvent → ℕ → ℕ → ℕ → Type 0
IsCalledAt stream call process op = slice_get stream call ≡ Some (Called process op)

-- at a place of a stream there is a call
abbrev pub IsStreamCall : List StreamEvent → ℕ → Type 0
IsStreamCall stream call = (process : ℕ) × (op : ℕ) × IsCalledAt stream call process op

-- between two places of a stream there is no event of a process
abbrev pub IsQuiet : List StreamEvent → ℕ → ℕ → ℕ → Type 0
IsQuiet stream process after before = (k : ℕ) (event : StreamEvent) → after < k → k < before
    → slice_get stream k ≡ Some event → process_of event ≡ process → ⊥

-- A call returns at a place `end` with a reply: the event there is the first one of the call's
-- process after the call.
pub record Returns (stream : List StreamEvent) (call end reply : ℕ) : Type 0 where
  pub process : ℕ
  pub op : ℕ
  pub called : IsCalledAt stream call process op
  pub returned : slice_get stream end ≡ Some (Returned process reply)
  pub after : call < end
  pub quiet : IsQuiet stream process call end

-- the call returns somewhere in the stream
abbrev pub HasReturned : List StreamEvent → ℕ → Type 0
HasReturned stream call = (end : ℕ) × (reply : ℕ) × Returns stream call end reply

-- The process waits for its call to return, after a whole stream: none of its events comes after
-- the call.
abbrev pub IsWaiting : List StreamEvent → ℕ → ℕ → Type 0
IsWaiting stream process call = (op : ℕ) × IsCalledAt stream call process op
    × IsQuiet stream process call (length stream)

-- A call precedes another where it returns before the other one is called (Herlihy and Wing 1990).
abbrev pub StreamPrecedes : List StreamEvent → ℕ → ℕ → Type 0
StreamPrecedes stream a b = (end : ℕ) × (reply : ℕ) × Returns stream a end reply × (end < b)

-- A stream is valid where each process has at most one pending call at a time: it calls only where
-- it doesn't wait, and a return or a loss comes only where its process waits.
pub record IsValidStream (stream : List StreamEvent) : Type 0 where
  -- between two calls of a process there is a return or a loss of the process
  pub calls : (j k process op other : ℕ) → j < k → IsCalledAt stream j process op
      → IsCalledAt stream k process other
      → (end : ℕ) × (event : StreamEvent) × (j < end) × (end < k)
      × (slice_get stream end ≡ Some event) × (process_of event ≡ process) × Ends event
  -- the last event of a process before its return or loss is a call
  pub ends : (end : ℕ) (event : StreamEvent) → slice_get stream end ≡ Some event → Ends event
      → (call : ℕ) × (op : ℕ) × (call < end) × IsCalledAt stream call (process_of event) op
      × IsQuiet stream (process_of event) call end
