-- Streams of several objects: what their lines say, one after another, and which line is wrong.
use Rattle.std.specs.Prelude.{◌≡◌, ◌≢◌, ◌⊎◌, ℕ, ◌+◌, ◌-◌, ◌<◌, ◌≤◌, ◌==◌, List, [], ◌∷◌, ◌++◌, Option, Some, None, fold, filter, map, bytes_eq, codes, if◌then◌else◌}
use Rattle.std.specs.List.{list_any, position_or_len}
use Rattle.seq_objects.specs.declared.kind.Kind.{Kind}
use Rattle.streams.specs.Stream.{StreamEvent, Called, Returned, Lost as LostCall, process_of}
use Rattle.text_fields.specs.Head.{object_words}
use Rattle.text_fields.specs.Lines.{words_of}
use Rattle.watch_core.specs.declared.TheConstants.{MAX_OPEN}
use Rattle.stream_text.specs.Line.{IsLine, IsWrong}
use Rattle.stream_text.specs.Source.{IsWholeLine}
use Rattle.stream_text.specs.declared.line.StreamLine.{StreamLine}
use Rattle.stream_text.specs.declared.line.StreamLine.TheVariants.{Call, Return, Lost, End}
use Rattle.stream_text.specs.declared.fault.Wrong.{Wrong}
use Rattle.stream_text.specs.declared.fault.Wrong.TheVariants as wrong

-- An event of one of several objects, which is named by its number: the number is that of the
-- objects that were called before it.
pub record ObjectEvent : Type 0 where
  pub object : ℕ
  pub event : StreamEvent

-- What the lines of a stream have said: the kind of the objects, their names, each at the object's
-- number, and the events.
pub record Said : Type 0 where
  pub kind : Kind
  pub names : List (List ℕ)
  pub events : List ObjectEvent

-- nothing is said yet of objects of a kind
abbrev pub nothing_of : Kind → Said
nothing_of kind = record { kind = kind; names = []; events = [] }

-- the events of one object, in their order
abbrev pub events_of : ℕ → List ObjectEvent → List StreamEvent
events_of object events = map ObjectEvent.event (filter (λ one. one.object == object) events)

-- the object of a call, where an event is one
abbrev pub called_object : ObjectEvent → StreamEvent → Option ℕ
called_object one (Called process op) = Some one.object
called_object one (Returned process reply) = None
called_object one (LostCall process) = None

-- the object of a process's pending call after one more event
abbrev pub pending_after : ℕ → Option ℕ → ObjectEvent → Option ℕ
pending_after process pending one =
    if process_of one.event == process then called_object one one.event else pending

-- the object of a process's pending call: its last event is a call of this object
abbrev pub pending_of : ℕ → List ObjectEvent → Option ℕ
pending_of process events = fold (pending_after process) None events

-- how many calls are open after one more event of an object
abbrev pub open_with : ℕ → StreamEvent → ℕ
open_with count (Called process op) = count + 1
open_with count (Returned process reply) = count - 1
open_with count (LostCall process) = count

abbrev pub open_after : ℕ → ℕ → ObjectEvent → ℕ
open_after object count one = if one.object == object then open_with count one.event else count

-- how many calls of an object are open: those that haven't returned, be they lost or not
abbrev pub open_of : ℕ → List ObjectEvent → ℕ
open_of object events = fold (open_after object) 0 events

-- the number of the object of a name: the place of its name, or the next number where it has none
abbrev pub object_named : List (List ℕ) → List ℕ → ℕ
object_named names name = position_or_len (bytes_eq name) names

-- the names with one that is there already, or is new
abbrev pub names_with : List (List ℕ) → List ℕ → List (List ℕ)
names_with names name = if list_any (bytes_eq name) names then names else names ++ name ∷ []

-- one event more
abbrev pub with_event : Said → List (List ℕ) → ℕ → StreamEvent → Said
with_event said names object event = record {
  kind = said.kind;
  names = names;
  events = said.events ++ record { object = object; event = event } ∷ [];
}

-- What a reader of a stream is due to read next, as the lines so far determine: the title, the
-- object line, an event, or nothing after `end`.
pub data Due : Type 0 where
  TitleDue : Due
  ObjectDue : Due
  EventDue : Said → Due
  Ended : Said → Due

-- Where lines have said this, a line leads further: a process calls that has no pending call, and
-- fewer calls of its object are open than may be; a process returns or loses its pending call; or
-- the stream ends.
abbrev pub Leads : Said → StreamLine → Due → Type 0
Leads said (Call process name op) after = (pending_of process said.events ≡ None)
    × (open_of (object_named said.names name.now) said.events < MAX_OPEN)
    × (after ≡ EventDue (with_event said (names_with said.names name.now)
    (object_named said.names name.now) (Called process op)))
Leads said (Return process reply) after = (object : ℕ)
    × (pending_of process said.events ≡ Some object)
    × (after ≡ EventDue (with_event said said.names object (Returned process reply)))
Leads said (Lost process) after = (object : ℕ)
    × (pending_of process said.events ≡ Some object)
    × (after ≡ EventDue (with_event said said.names object (LostCall process)))
Leads said End after = after ≡ Ended said

-- Where lines have said this, a line is wrong: a process calls that has a pending call, or calls an
-- object of which as many calls are open as may be; a process returns or loses a call that has
-- none.
abbrev pub IsUntimely : Said → StreamLine → Wrong → Type 0
IsUntimely said (Call process name op) wrong.Busy = pending_of process said.events ≢ None
IsUntimely said (Call process name op) wrong.Open = (pending_of process said.events ≡ None)
    × (MAX_OPEN ≤ open_of (object_named said.names name.now) said.events)
IsUntimely said (Return process reply) wrong.Idle = pending_of process said.events ≡ None
IsUntimely said (Lost process) wrong.Idle = pending_of process said.events ≡ None
IsUntimely said line _ = ⊥

-- a line, given by its bytes, is right where something is due, and leads to what is due next
abbrev pub Passes : Due → List ℕ → Due → Type 0
Passes TitleDue line after = (line ≡ codes "stream 1") × (after ≡ ObjectDue)
Passes ObjectDue line after = (kind : Kind) × (words_of line ≡ object_words kind)
    × (after ≡ EventDue (nothing_of kind))
Passes (EventDue said) line after = (read : StreamLine) × IsLine said.kind (words_of line) read
    × Leads said read after
Passes (Ended said) line after = ⊥

-- A line, given by its bytes, fails a test where something is due: it is another one than the title
-- or an object line; or it is no line of an event; or it is one that is untimely; or it follows the
-- end.
abbrev pub Fails : Due → List ℕ → Wrong → Type 0
Fails TitleDue line what = (what ≡ wrong.Head) × (line ≢ codes "stream 1")
Fails ObjectDue line what = (what ≡ wrong.Object)
    × ((kind : Kind) → words_of line ≢ object_words kind)
Fails (EventDue said) line what = IsWrong said.kind (words_of line) what
    ⊎ ((read : StreamLine) × IsLine said.kind (words_of line) read × IsUntimely said read what)
Fails (Ended said) line what = what ≡ wrong.Rest

-- Lines are read from one state of reading to another: each is a whole line and right, in turn.
abbrev pub AllPass : Due → List (List ℕ) → Due → Type 0
AllPass due [] after = due ≡ after
AllPass due (line ∷ lines) after = IsWholeLine line × ((next : Due) × Passes due line next
    × AllPass next lines after)

-- the lines of a stream's beginning say this
abbrev pub ReadsAs : List (List ℕ) → Due → Type 0
ReadsAs lines due = AllPass TitleDue lines due
