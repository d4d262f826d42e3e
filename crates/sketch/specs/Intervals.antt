-- Intervals: calls with the places that they take in the sketch of their book.
use Rattle.std.specs.Prelude.{◌≡◌, ℕ, ◌+◌, ◌<◌, ◌≤◌, ◌↔◌, IsTrue, List, [], map, length, Some, Vec, slice_get, slice_index_or}
use Rattle.std.specs.declared.alloc.Global.{Global}
use Rattle.book_base.specs.declared.call.Call.{Call}
use Rattle.book_base.specs.Book.{Page, IsCall, IsAnswered, Precedes}
use Rattle.sketch.specs.declared.event.Event.{Event}
use Rattle.sketch.specs.declared.event.Event.TheVariants.{Invoke, Return}
use Rattle.sketch.specs.declared.interval.Interval.{Interval}

-- an event stands in a list, at the place `from` or later
abbrev pub StandsFrom : List Event → ℕ → Event → Type 0
StandsFrom events from event = (place : ℕ) × (from ≤ place) × (slice_get events place ≡ Some event)

-- the call that comes after a call among those of its caller
abbrev pub next_of : Call → Call
next_of call = record call { number = call.number + 1 }

-- An interval is that of its call in a list of a book's events: it begins with the call's
-- invocation, and ends after the call's return, or, where the call is unanswered, where the next
-- call of its caller is invoked, or after all events.
pub record IsIntervalOf (book : List Page) (events : List Event)
    (interval : Interval) : Type 0 where
  -- the interval's call is a call of the book, and the interval begins where this call is invoked
  pub call : IsCall book interval.call
  pub begins : slice_get events interval.begin ≡ Some (Invoke interval.call)
  -- the interval is open exactly where its call is unanswered
  pub open_is : IsTrue interval.is_open ↔ ¬ (IsAnswered book interval.call)
  -- the interval of an answered call ends one place after the call's return
  pub returns : IsAnswered book interval.call → (place : ℕ) × (interval.end ≡ place + 1)
      × (slice_get events place ≡ Some (Return interval.call))
  -- the interval of an unanswered call ends where the next call of its caller is invoked, or after
  -- all events where there is no such call
  pub breaks_off : ¬ (IsAnswered book interval.call) → IsCall book (next_of interval.call)
      → slice_get events interval.end ≡ Some (Invoke (next_of interval.call))
  pub goes_on : ¬ (IsAnswered book interval.call) → ¬ (IsCall book (next_of interval.call))
      → interval.end ≡ length events

-- A lane has the interval of each call of a caller, by number.
pub record IsLaneOf (book : List Page) (events : List Event) (caller : ℕ)
    (lane : List Interval) : Type 0 where
  pub calls : (number : ℕ) → (number < length lane)
      ↔ IsCall book (record { caller = caller; number = number })
  pub named : (number : ℕ) (interval : Interval) → slice_get lane number ≡ Some interval
      → interval.call ≡ record { caller = caller; number = number }
  pub told : (number : ℕ) (interval : Interval) → slice_get lane number ≡ Some interval
      → IsIntervalOf book events interval

-- the lanes as lists of intervals
abbrev pub rows_of : List (Vec Interval Global) → List (List Interval)
rows_of lanes = map (λ lane. lane.items) lanes

-- an interval stands on the lane of a caller, at a place
abbrev pub StandsOn : List (List Interval) → ℕ → ℕ → Interval → Type 0
StandsOn lanes caller place interval =
    slice_get (slice_index_or lanes caller []) place ≡ Some interval

-- Each interval stands on the lane of its caller.
abbrev pub StandOnTheirLanes : List (List Interval) → Type 0
StandOnTheirLanes lanes = (caller place : ℕ) (interval : Interval)
    → StandsOn lanes caller place interval → interval.call.caller ≡ caller

-- A call has exactly one interval on the lanes.
pub record HasOneInterval (lanes : List (List Interval)) (call : Call) : Type 0 where
  pub caller : ℕ
  pub place : ℕ
  pub interval : Interval
  pub stands : StandsOn lanes caller place interval
  pub is_its : interval.call ≡ call
  pub only : (i k : ℕ) (other : Interval) → StandsOn lanes i k other → other.call ≡ call
      → (i ≡ caller) × (k ≡ place)

-- Each call of a book has exactly one interval on the lanes.
abbrev pub HaveOneEach : List Page → List (List Interval) → Type 0
HaveOneEach book lanes = (call : Call) → IsCall book call → HasOneInterval lanes call

-- Each interval on the lanes begins and ends as its call does in a list of the book's events.
abbrev pub AreTold : List Page → List Event → List (List Interval) → Type 0
AreTold book events lanes = (caller place : ℕ) (interval : Interval)
    → StandsOn lanes caller place interval → IsIntervalOf book events interval

-- Each interval on the lanes has at least one place, and ends no later than the events.
abbrev pub LieWithin : List Event → List (List Interval) → Type 0
LieWithin events lanes = (caller place : ℕ) (interval : Interval)
    → StandsOn lanes caller place interval
    → (interval.begin < interval.end) × (interval.end ≤ length events)

-- Where a call precedes another, its interval ends before the other's begins: they share no place.
abbrev pub AreApart : List Page → List (List Interval) → Type 0
AreApart book lanes = (i j k l : ℕ) (a b : Interval) → StandsOn lanes i k a → StandsOn lanes j l b
    → Precedes book a.call b.call → a.end ≤ b.begin

-- Where the interval of an answered call ends before another begins, the call precedes the other.
abbrev pub Meet : List Page → List (List Interval) → Type 0
Meet book lanes = (i j k l : ℕ) (a b : Interval) → StandsOn lanes i k a → StandsOn lanes j l b
    → IsAnswered book a.call → a.end ≤ b.begin → Precedes book a.call b.call
