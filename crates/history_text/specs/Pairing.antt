-- Invocations and their answers, and the faults of events.
use Rattle.std.specs.Prelude.{ℕ, Bool, true, false, ◌&&◌, nat_lt, bytes_eq, if◌then◌else◌, List, [], ◌∷◌, ◌++◌, reverse, Option, Some, None, is_some, unwrap_or, option_map, option_to_list}
use Rattle.history_text.specs.declared.clock.Clock.{Clock}
use Rattle.history_text.specs.declared.event.LinedEvent.{LinedEvent}
use Rattle.history_text.specs.declared.event.Stage.{Stage}
use Rattle.history_text.specs.declared.event.Stage.TheVariants.{Invoke, Ok, Fail, Info}
use Rattle.history_text.specs.declared.entry.Entry.{Entry}
use Rattle.history_text.specs.declared.entry.Entry.TheVariants.{OfCall, Whole, Other}
use Rattle.history_text.specs.declared.entry.LinedEntry.{LinedEntry}
use Rattle.history_text.specs.declared.call.LogCall.{LogCall}
use Rattle.history_text.specs.declared.call.LogAnswer.{LogAnswer}
use Rattle.history_text.specs.declared.fault.LogWhat.{LogWhat}
use Rattle.history_text.specs.declared.fault.LogWhat.TheVariants.{Operation, Time, Pending, Unasked}
use Rattle.history_text.specs.Clock.{moment_of, earliest, latest}

-- whether an event makes a call
abbrev pub is_invocation : Stage → Bool
is_invocation Invoke = true
is_invocation Ok = false
is_invocation Fail = false
is_invocation Info = false

-- whether an event tells that its call returned
abbrev pub is_return : Stage → Bool
is_return Invoke = false
is_return Ok = true
is_return Fail = false
is_return Info = false

-- whether an event tells that its call took no effect
abbrev pub is_failure : Stage → Bool
is_failure Invoke = false
is_failure Ok = false
is_failure Fail = true
is_failure Info = false

-- the event of a process that an entry is, or else the other event
abbrev pub event_or : List ℕ → ℕ → Entry → Option LinedEvent → Option LinedEvent
event_or process line (OfCall event) other =
    if bytes_eq event.process.now process then Some (record { line = line; event = event })
    else other
event_or process line (Whole call) other = other
event_or process line Other other = other

-- the first event of a process in some entries
abbrev pub first_event : List ℕ → List LinedEntry → Option LinedEvent
first_event process [] = None
first_event process (entry ∷ entries) =
    event_or process entry.line entry.entry (first_event process entries)

-- the last event of a process in some entries
abbrev pub last_event : List ℕ → List LinedEntry → Option LinedEvent
last_event process entries = first_event process (reverse entries)

-- the invocation of a process's pending call, by its last event: an event that isn't an invocation
-- leaves none pending
abbrev pub pending_by : Option LinedEvent → Option LinedEvent
pending_by None = None
pending_by (Some last) = if is_invocation last.event.stage then Some last else None

-- the invocation of a process's pending call after some entries
abbrev pub pending_call : List ℕ → List LinedEntry → Option LinedEvent
pending_call process entries = pending_by (last_event process entries)

-- the moment of an event, 0 where it has none
abbrev pub moment : Clock → LinedEvent → ℕ
moment clock lined = unwrap_or (moment_of clock lined.line lined.event.time) 0

-- what is wrong with the answer of a call that was invoked so: it names another operation, or the
-- call returned before it was invoked
abbrev pub answer_fault : Clock → LinedEvent → LinedEvent → Option LogWhat
answer_fault clock invoked answer =
    if bytes_eq invoked.event.operation.now answer.event.operation.now then
    (if is_return answer.event.stage
    && nat_lt (latest clock (moment clock answer)) (earliest clock (moment clock invoked))
    then Some Time else None)
    else Some Operation

-- what is wrong with an event of a process that has this pending call: an invocation finds none
-- pending, and an answer finds its call
abbrev pub fault_beside : Clock → LinedEvent → Option LinedEvent → Option LogWhat
fault_beside clock lined None = if is_invocation lined.event.stage then None else Some Unasked
fault_beside clock lined (Some invoked) =
    if is_invocation lined.event.stage then Some Pending else answer_fault clock invoked lined

-- what is wrong with an event after some entries: first that it has no moment
abbrev pub event_fault : Clock → List LinedEntry → LinedEvent → Option LogWhat
event_fault clock earlier lined =
    if is_some (moment_of clock lined.line lined.event.time)
    then fault_beside clock lined (pending_call lined.event.process.now earlier)
    else Some Time

-- what is wrong with an entry after some entries
abbrev pub entry_fault : Clock → List LinedEntry → ℕ → Entry → Option LogWhat
entry_fault clock earlier line (OfCall event) =
    event_fault clock earlier (record { line = line; event = event })
entry_fault clock earlier line (Whole call) = None
entry_fault clock earlier line Other = None

-- the answer of a call by the next event of its process: only `ok` answers it
abbrev pub answer_by : Clock → Option LinedEvent → Option LogAnswer
answer_by clock None = None
answer_by clock (Some next) =
    if is_return next.event.stage then Some (record {
      line = next.line;
      returned = latest clock (moment clock next);
      value = next.event.value;
    })
    else None

-- whether the next event of its process tells that a call took no effect
abbrev pub is_failed : Option LinedEvent → Bool
is_failed None = false
is_failed (Some next) = is_failure next.event.stage

-- the call that an invocation makes, where the next event of its process is this one; none where it
-- failed
abbrev pub call_made : Clock → LinedEvent → Option LinedEvent → Option LogCall
call_made clock invoked next =
    if is_failed next then None else Some (record {
      process = Some invoked.event.process;
      key = invoked.event.key;
      operation = invoked.event.operation;
      value = invoked.event.value;
      arguments = invoked.event.arguments;
      line = invoked.line;
      invoked = earliest clock (moment clock invoked);
      answer = answer_by clock next;
    })

-- an answer, as late as the clock's error makes it
abbrev pub late : Clock → LogAnswer → LogAnswer
late clock answer = record answer { returned = latest clock answer.returned }

-- a whole call, as wide as the clock's error makes it
abbrev pub widened : Clock → LogCall → LogCall
widened clock call = record call {
  invoked = earliest clock call.invoked;
  answer = option_map (late clock) call.answer;
}

-- the call that an entry makes, before these later entries
abbrev pub call_by : Clock → ℕ → Entry → List LinedEntry → Option LogCall
call_by clock line (OfCall event) later =
    if is_invocation event.stage
    then call_made clock (record { line = line; event = event })
    (first_event event.process.now later)
    else None
call_by clock line (Whole call) later = Some (widened clock call)
call_by clock line Other later = None

-- the calls of some entries that took effect or may have done so, in the order of their invocations
abbrev pub calls_of : Clock → List LinedEntry → List LogCall
calls_of clock [] = []
calls_of clock (entry ∷ later) =
    option_to_list (call_by clock entry.line entry.entry later) ++ calls_of clock later
