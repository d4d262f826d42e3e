-- Runs of queues, stacks and priority queues: which of the values that were put in comes out next.
use Rattle.std.specs.Prelude.{◌≡◌, ◌⊎◌, ℕ, ◌<◌, ◌≤◌, ◌^◌, true, List, ◌∷◌, ◌++◌, length, map, slice_get, Option, Some, None, if◌then◌else◌}
use Rattle.std.specs.List.{filter_map}
use Rattle.legal_orders.specs.Container.{Effect, Puts, Takes, Neither, Reading, put_by, taken_by, times}
use Rattle.seq_objects.specs.declared.kind.Kind.{Kind}
use Rattle.seq_objects.specs.declared.kind.Kind.TheVariants.{Queue, Stack, Pqueue}
use Rattle.seq_objects.specs.Words.{insert, deq, pop, min, is_operation_of, argument_of}
use Rattle.seq_objects.specs.Replies.{reply_none, reply_value, value_of, shown_value}
use Rattle.kind_search.specs.Readings.{queue_reading, stack_reading}
use Rattle.broken_rules.specs.Runs.{IsRunOfKind, does}

-- The values that some steps put in, in the order of the steps. A step is an operation word with
-- its reply.
abbrev pub put_in : Reading → List (ℕ × ℕ) → List ℕ
put_in reading steps = filter_map (put_by reading) steps

-- The values that some steps give out, in the order of the steps. A step is an operation word with
-- its reply.
abbrev pub given_out : Reading → List (ℕ × ℕ) → List ℕ
given_out reading steps = filter_map (taken_by reading) steps

-- In each run of an object of a kind, what a take gives out was put in before it, more often than
-- it was given out before. So each value comes out at most as often as it was put in.
abbrev pub TakesTakeWhatWasPut : Kind → Reading → Type 0
TakesTakeWhatWasPut kind reading = (before rest : List (ℕ × ℕ)) (step : ℕ × ℕ) (value : ℕ)
    → IsRunOfKind kind (before ++ step ∷ rest)
    → taken_by reading step ≡ Some value
    → times value (given_out reading before) < times value (put_in reading before)

-- The reply that gives a value, or the reply `none` where there is no value.
abbrev pub reply_with : Option ℕ → ℕ
reply_with (Some value) = reply_value value
reply_with None = reply_none

-- Where n values were given out before a dequeue in a run of a queue, the dequeue gives the value
-- at place n, counted from 0, of those put in before it, or none where there is no such value.
abbrev pub DequeuesGiveTheOldest : Type 0
DequeuesGiveTheOldest = (before rest : List (ℕ × ℕ)) (step : ℕ × ℕ)
    → IsRunOfKind Queue (before ++ step ∷ rest) → does deq step ≡ true
    → step.1
    ≡ reply_with (slice_get (put_in queue_reading before) (length (given_out queue_reading before)))

-- The steps of a stack are even: they give out as many values as they put in, and no prefix of them
-- gives out more than it puts in.
pub record AreEven (steps : List (ℕ × ℕ)) : Type 0 where
  pub all : length (given_out stack_reading steps) ≡ length (put_in stack_reading steps)
  pub first : (prefix rest : List (ℕ × ℕ)) → steps ≡ prefix ++ rest
      → length (given_out stack_reading prefix) ≤ length (put_in stack_reading prefix)

-- A value is the newest one on a stack after some steps: one of the steps puts it in, and the steps
-- after this one are even, which means that they give out as many values as they put in, and no
-- prefix of them gives out more than it puts in.
pub record IsNewest (steps : List (ℕ × ℕ)) (value : ℕ) : Type 0 where
  pub before : List (ℕ × ℕ)
  pub push : ℕ × ℕ
  pub later : List (ℕ × ℕ)
  pub steps_are : steps ≡ before ++ push ∷ later
  pub puts : put_by stack_reading push ≡ Some value
  pub even : AreEven later

-- The reply to a pop after some steps gives the newest value on the stack after these steps. Or it
-- is `none`: then the steps give out as many values as they put in, and no prefix of them gives out
-- more than it puts in.
abbrev pub GivesTheNewest : List (ℕ × ℕ) → ℕ → Type 0
GivesTheNewest before reply = ((reply ≡ reply_none) × AreEven before)
    ⊎ ((value : ℕ) × (reply ≡ reply_value value) × IsNewest before value)

-- In each run of a stack, a pop gives the newest value on the stack after the steps before it, or
-- none where these steps give out as many values as they put in, and no prefix of them gives out
-- more than it puts in.
abbrev pub PopsGiveTheNewest : Type 0
PopsGiveTheNewest = (before rest : List (ℕ × ℕ)) (step : ℕ × ℕ)
    → IsRunOfKind Stack (before ++ step ∷ rest) → does pop step ≡ true
    → GivesTheNewest before step.1

-- The effect of an operation word of a priority queue: an insert puts its value in, a min takes one
-- out, and any other word does neither.
abbrev pub pqueue_deed : ℕ → Effect
pqueue_deed word =
    if is_operation_of word insert then Puts (argument_of word) else if is_operation_of word min
    then Takes else Neither

-- How a priority queue is read: an insert puts in, a min takes out, and the values of a list are
-- the low 32 bits of its words.
abbrev pub pqueue_reading : Reading
pqueue_reading = record { deed = pqueue_deed; shown = shown_value; values = map value_of }

-- A value is in a priority queue after some steps: they put it in more often than they give it out.
abbrev pub IsIn : List (ℕ × ℕ) → ℕ → Type 0
IsIn steps value =
    times value (given_out pqueue_reading steps) < times value (put_in pqueue_reading steps)

-- A value below 2 ^ 32 is in a priority queue after some steps, and no lesser value is.
pub record IsLeast (steps : List (ℕ × ℕ)) (value : ℕ) : Type 0 where
  pub inside : IsIn steps value
  pub least : (other : ℕ) → IsIn steps other → value ≤ other
  pub small : value < 2 ^ 32

-- The reply to a min after some steps gives the least value in the priority queue, or none where no
-- value is in it.
abbrev pub GivesTheLeast : List (ℕ × ℕ) → ℕ → Type 0
GivesTheLeast before reply = ((reply ≡ reply_none) × ((value : ℕ) → IsIn before value → ⊥))
    ⊎ ((value : ℕ) × (reply ≡ reply_value value) × IsLeast before value)

-- In each run of a priority queue, a min gives the least value in the queue after the steps before
-- it, or none where no value is in it.
abbrev pub MinsGiveTheLeast : Type 0
MinsGiveTheLeast = (before rest : List (ℕ × ℕ)) (step : ℕ × ℕ)
    → IsRunOfKind Pqueue (before ++ step ∷ rest) → does min step ≡ true
    → GivesTheLeast before step.1

-- In each run of a priority queue, each value comes out at most as often as it was put in.
abbrev pub ComesOutAtMostAsOften : Type 0
ComesOutAtMostAsOften = (steps : List (ℕ × ℕ)) (value : ℕ) → IsRunOfKind Pqueue steps
    → times value (given_out pqueue_reading steps) ≤ times value (put_in pqueue_reading steps)
