-- Watches and the events that they will take.
use Rattle.std.specs.Prelude.{◌≡◌, ◌⊎◌, ℕ, ◌<◌, ◌≤◌, ◌^◌, List, ◌++◌, length, map, take, drop, Some, slice_get}
use Rattle.seq_objects.specs.declared.kind.Kind.{Kind}
use Rattle.seq_objects.specs.Objects.{kind_spec}
use Rattle.streams.specs.Stream.{StreamEvent, process_of, IsValidStream}
use Rattle.streams.specs.StreamOrder.{HasLegalStreamOrder}
use Rattle.late_residue.specs.declared.open_call.OpenCall.{OpenCall}
use Rattle.watch_core.specs.declared.TheConstants.{MAX_OPEN}
use Rattle.watch_core.specs.declared.event.Event.{Event}
use Rattle.watch_core.specs.declared.verdict.Verdict.{Verdict}
use Rattle.watch_core.specs.declared.verdict.Verdict.TheVariants.{Legal, Illegal, Unsure}
use Rattle.watch_core.specs.Event.{event_of}
use Rattle.watch_core.specs.Table.{IsTable}
use Rattle.watch_core.specs.Verdict.{IsIllegalFrom, IsUnsureAt}
use Rattle.watch_core.specs.Watch.{Watched, HasTaken}
use Rattle.windowed_watch.specs.declared.lookahead.Lookahead.{Lookahead}

-- events of the code as events of a stream
abbrev pub events_of : List Event → List StreamEvent
events_of events = map event_of events

-- the first events, as many as a number says, have none of a process
abbrev pub HasNoneOf : List StreamEvent → ℕ → ℕ → Type 0
HasNoneOf events number process = (j : ℕ) (event : StreamEvent) → j < number
    → slice_get events j ≡ Some event → process_of event ≡ process → ⊥

-- the first event of a process is at an index
abbrev pub IsNextOf : List StreamEvent → ℕ → ℕ → Type 0
IsNextOf events k process = (event : StreamEvent) × (slice_get events k ≡ Some event)
    × (process_of event ≡ process) × HasNoneOf events k process

-- after no first events of a stream more calls are open than may be
abbrev pub IsNarrow : List StreamEvent → Type 0
IsNarrow stream = (front rest : List StreamEvent) (calls : List OpenCall) → stream ≡ front ++ rest
    → IsTable front calls → length calls ≤ MAX_OPEN

-- A watch can take the events of a stream: it is valid, no more calls are open at a time than may
-- be, and the events can be counted.
pub record IsTakable (stream : List StreamEvent) : Type 0 where
  pub valid : IsValidStream stream
  pub narrow : IsNarrow stream
  pub short : length stream < 2 ^ 64

-- the numbers of events are in their order
pub record IsWithin (ahead : Lookahead) : Type 0 where
  pub legal : ahead.legal ≤ ahead.taken
  pub taken : ahead.taken ≤ length ahead.log.items
  pub next : ahead.next.taken ≤ ahead.next.seen

-- A watch has taken the events before a log and the first `taken` ones of the log, and knows
-- replies from those up to `seen` alone.
abbrev pub IsAt : List StreamEvent → List StreamEvent → ℕ → ℕ → Watched → Type 0
IsAt before events taken seen watch =
    HasTaken watch (before ++ take taken events) (drop taken (take seen events))

-- The log has the events of a stream after some first ones, and those up to `legal` have a legal
-- order. The base has taken the first ones, and knows replies from the events up to `legal` alone.
-- The checkpoint and the watch have taken more; the watch knows replies from all events.
pub record IsRunning (ahead : Lookahead) (stream : List StreamEvent) : Type 0 where
  pub before : List StreamEvent
  pub whole : stream ≡ before ++ events_of ahead.log.items
  pub legal : HasLegalStreamOrder (kind_spec ahead.watch.kind)
      (before ++ take ahead.legal (events_of ahead.log.items))
  pub base_kind : ahead.base.kind ≡ ahead.watch.kind
  pub base_limit : ahead.base.limit ≡ ahead.watch.limit
  pub base : IsAt before (events_of ahead.log.items) 0 ahead.legal ahead.base
  pub next_kind : ahead.next.watch.kind ≡ ahead.watch.kind
  pub next_limit : ahead.next.watch.limit ≡ ahead.watch.limit
  pub next_seen : ahead.next.seen ≤ length ahead.log.items
  pub next : IsAt before (events_of ahead.log.items) ahead.next.taken ahead.next.seen
      ahead.next.watch
  pub watch : HasTaken ahead.watch (before ++ take ahead.taken (events_of ahead.log.items))
      (drop ahead.taken (events_of ahead.log.items))

-- The two numbers are those of one event, unless with some beginning of the stream the limit is
-- met.
abbrev pub IsExact : Kind → ℕ → List StreamEvent → ℕ → ℕ → Type 0
IsExact kind limit stream first last = (first ≡ last)
    ⊎ ((front : List StreamEvent) × (rest : List StreamEvent) × (number : ℕ)
    × (stream ≡ front ++ rest) × IsUnsureAt kind limit front number)

-- A verdict is right however the stream goes on: it names the first event with which there is no
-- legal order, or one at which the limit is met.
abbrev pub IsFinal : Kind → ℕ → List StreamEvent → Verdict → Type 0
IsFinal kind limit stream (Legal number) = ⊥
IsFinal kind limit stream (Illegal first last) =
    IsIllegalFrom (kind_spec kind) stream first last × IsExact kind limit stream first last
IsFinal kind limit stream (Unsure number) = IsUnsureAt kind limit stream number
