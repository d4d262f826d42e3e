-- What a reader of a stream knows of the lines so far.
use Rattle.std.specs.Prelude.{◌≡◌, ℕ, ◌<◌, List, length, get_or, map, Some, nat_eq, ⊤}
use Rattle.indexmap.specs.IndexMap.{get}
use Rattle.seq_objects.specs.declared.kind.Kind.{Kind}
use Rattle.watch_core.specs.Event.{event_of}
use Rattle.stream_text.specs.declared.fault.Wrong.{Wrong}
use Rattle.stream_text.specs.declared.fault.StreamError.{StreamError}
use Rattle.stream_text.specs.declared.fault.StreamError.TheVariants as error
use Rattle.stream_text.specs.declared.reader.StreamReader.{StreamReader}
use Rattle.stream_text.specs.declared.reader.Phase.TheVariants as phase
use Rattle.stream_text.specs.declared.reader.Taken.{Taken}
use Rattle.stream_text.specs.declared.reader.Taken.TheVariants as taken
use Rattle.stream_text.specs.Stream.{Said, Due, TitleDue, ObjectDue, EventDue, Ended, nothing_of, pending_of, open_of, with_event}

-- The tables of a reader have what lines have said: the names of the objects, how many calls of
-- each are open, and the object of each process's pending call.
pub record HasTables (reader : StreamReader) (said : Said) : Type 0 where
  pub names : map (λ name. name.items) reader.names.keys ≡ said.names
  pub size : length reader.counts.items ≡ length said.names
  pub counts : (object : ℕ) → get_or reader.counts.items object 0 ≡ open_of object said.events
  pub pending : (process : ℕ) → get nat_eq reader.pending process ≡ pending_of process said.events
  -- the objects of pending calls have names
  pub named : (process object : ℕ) → pending_of process said.events ≡ Some object
      → object < length said.names

-- the lines so far have led a reader to what is due next
abbrev pub HasRead : StreamReader → Due → Type 0
HasRead reader TitleDue = (reader.phase ≡ phase.Title)
    × ((kind : Kind) → HasTables reader (nothing_of kind))
HasRead reader ObjectDue = (reader.phase ≡ phase.Object)
    × ((kind : Kind) → HasTables reader (nothing_of kind))
HasRead reader (EventDue said) = (reader.phase ≡ phase.Events said.kind) × HasTables reader said
HasRead reader (Ended said) = (reader.phase ≡ phase.Ended said.kind) × HasTables reader said

-- What is answered of a line tells what is due next: a line of the head, the end, or an event of an
-- object.
abbrev pub Tells : Due → Taken → Due → Type 0
Tells TitleDue taken.Head after = ⊤
Tells ObjectDue taken.Head after = ⊤
Tells (EventDue said) (taken.Event object event) after = (names : List (List ℕ))
    × (object < length names) × (after ≡ EventDue (with_event said names object (event_of event)))
Tells (EventDue said) taken.End after = after ≡ Ended said
Tells due taken after = ⊥

-- an error is a fault with this property, or want of memory
abbrev pub IsErrorOf : (Wrong → Type 0) → StreamError → Type 0
IsErrorOf IsOne (error.Wrong what) = IsOne what
IsErrorOf IsOne error.NoMemory = ⊤
