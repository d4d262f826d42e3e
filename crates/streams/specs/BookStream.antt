-- The stream of a book, by its sketch.
use Rattle.std.specs.Prelude.{ℕ, ◌+◌, ◌≤◌, List, map, Option, Some, None, unwrap_or, slice_get}
use Rattle.book_base.specs.declared.call.Call.{Call}
use Rattle.book_base.specs.declared.call.Record.{Record}
use Rattle.book_base.specs.Book.{Page, calls_of, answers_of, operation_of, record_of}
use Rattle.sketch.specs.declared.event.Event.{Event}
use Rattle.sketch.specs.declared.event.Event.TheVariants.{Invoke, Return}
use Rattle.streams.specs.Stream.{StreamEvent, Called, Returned}

-- the reply of a record, 0 where there is none
abbrev pub reply_of : Option Record → ℕ
reply_of None = 0
reply_of (Some r) = r.reply

-- the event of a stream as which an event of a book's sketch is read
abbrev pub event_of : List Page → Event → StreamEvent
event_of book (Invoke call) = Called call.caller (unwrap_or (operation_of book call) 0)
event_of book (Return call) = Returned call.caller (reply_of (record_of book call))

-- Each caller of the book has at most one pending call.
abbrev pub HasOnePending : List Page → Type 0
HasOnePending book = (i : ℕ) → calls_of book i ≤ answers_of book i + 1

-- the stream of a book in which each caller has at most one pending call, by its sketch
abbrev pub stream_of : List Page → List Event → List StreamEvent
stream_of book events = map (event_of book) events

-- the call of an event
abbrev pub call_of_event : Option Event → Call
call_of_event None = record { caller = 0; number = 0 }
call_of_event (Some (Invoke call)) = call
call_of_event (Some (Return call)) = call

-- the call of the event at a place of a sketch
abbrev pub name_in : List Event → ℕ → Call
name_in events k = call_of_event (slice_get events k)
